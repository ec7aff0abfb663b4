use Rattle.av_merge.proofs.StandLemmas.{stand_together}
use Rattle.av_merge.proofs.laws.may_stand_together.Goals as goal

pub returns : goal.returns
returns c = stand_together
