use Rattle.av_merge.proofs.OriginLemmas.{true_clash}
use Rattle.av_merge.proofs.laws.clashes_are_true.Goals as goal

pub returns : goal.returns
returns c = true_clash
