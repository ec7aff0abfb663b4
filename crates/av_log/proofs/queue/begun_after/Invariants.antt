use Rattle.std.proofs.Common.{◌≡◌, length}
use Rattle.av_log.specs.Queue.{begun_after}
use Rattle.av_log.proofs.queue.begun_after.Given as goal

abbrev pub invariant-bytes : goal.invariant-bytes
invariant-bytes l = begun_after l.begun l.rest ≡ begun_after l.before l.bytes

abbrev pub decreases-bytes : goal.decreases-bytes
decreases-bytes l = length l.rest
