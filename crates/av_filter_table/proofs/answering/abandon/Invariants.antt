use Rattle.std.proofs.Common.{length}
use Rattle.av_filter_table.proofs.answering.abandon.Given as goal

abbrev pub decreases-denied : goal.decreases-denied
decreases-denied l = length l.table.pended
