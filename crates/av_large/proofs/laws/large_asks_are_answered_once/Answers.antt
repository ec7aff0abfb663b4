use Rattle.av_large.proofs.OnceLemmas.{answered_once}
use Rattle.av_large.proofs.laws.large_asks_are_answered_once.Goals as goal

pub returns : goal.returns
returns c = answered_once
