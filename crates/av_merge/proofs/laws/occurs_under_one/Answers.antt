use Rattle.av_merge.proofs.LookLemmas.{occurs_one}
use Rattle.av_merge.proofs.laws.occurs_under_one.Goals as goal

pub returns : goal.returns
returns c = occurs_one
