use Rattle.std.proofs.Common.{vec_len}
use Rattle.av_world.proofs.world.stage.discard.Given as goal

abbrev pub decreases-works : goal.decreases-works
decreases-works l = vec_len l.works
