use Rattle.av_output.proofs.BackLemmas
use Rattle.av_output.proofs.laws.objects_tell_text.Goals as goal

pub returns-clause-report : goal.returns-clause-report
returns-clause-report c = BackLemmas.objects_tell_text

pub returns-clause-judgement : goal.returns-clause-judgement
returns-clause-judgement c = BackLemmas.judgement_tells_text
