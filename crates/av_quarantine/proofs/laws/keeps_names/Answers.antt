use Rattle.av_quarantine.proofs.StepLemmas.{keeps}
use Rattle.av_quarantine.proofs.laws.keeps_names.Goals as goal

pub returns : goal.returns
returns c = keeps
