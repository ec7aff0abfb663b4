use Rattle.std.proofs.Common.{◌≡◌, length}
use Rattle.av_log.specs.Queue.{behind_line}
use Rattle.av_log.proofs.queue.behind_line.Given as goal

abbrev pub invariant-bytes : goal.invariant-bytes
invariant-bytes l = behind_line l.rest ≡ behind_line l.bytes

abbrev pub decreases-bytes : goal.decreases-bytes
decreases-bytes l = length l.rest
