use Rattle.std.proofs.Common.{vec_len}
use Rattle.av_pool.proofs.tests.calls.left.Given as goal

abbrev pub decreases-loop-done : goal.decreases-loop-done
decreases-loop-done l = vec_len l.dones
