use Rattle.std.proofs.Common.{vec_len}
use Rattle.av_context.proofs.tests.release_all.Given as goal

abbrev pub decreases-held : goal.decreases-held
decreases-held g l = vec_len l.held
