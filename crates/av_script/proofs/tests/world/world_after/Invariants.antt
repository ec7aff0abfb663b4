use Rattle.std.specs.VecDeque.{deque_len}
use Rattle.av_script.proofs.tests.world.world_after.Given as goal

abbrev pub decreases-commands : goal.decreases-commands
decreases-commands g l = deque_len l.commands
