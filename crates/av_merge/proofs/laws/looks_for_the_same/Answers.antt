use Rattle.av_merge.proofs.LookLemmas.{same_looks}
use Rattle.av_merge.proofs.laws.looks_for_the_same.Goals as goal

pub returns : goal.returns
returns c = same_looks
