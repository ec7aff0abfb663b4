use Rattle.std.proofs.Common.{◌≡◌, length}
use Rattle.av_glob.specs.Reading.{has}
use Rattle.av_glob.proofs.reading.has.Given as goal

abbrev pub invariant-bytes : goal.invariant-bytes
invariant-bytes l = has l.wanted l.rest ≡ has l.wanted l.text

abbrev pub decreases-bytes : goal.decreases-bytes
decreases-bytes l = length l.rest
