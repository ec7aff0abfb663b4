use Rattle.av_filter.proofs.OnceLemmas
use Rattle.av_filter.proofs.laws.audits_answer_once.Goals as goal

pub returns : goal.returns
returns c = OnceLemmas.answers_once
