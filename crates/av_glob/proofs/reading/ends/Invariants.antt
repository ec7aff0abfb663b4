use Rattle.std.proofs.Common.{◌≡◌, length}
use Rattle.av_glob.specs.Reading.{ends, ends_so}
use Rattle.av_glob.proofs.reading.ends.Given as goal

abbrev pub invariant-bytes : goal.invariant-bytes
invariant-bytes l = ends_so l.is_met l.wanted l.rest ≡ ends l.wanted l.text

abbrev pub decreases-bytes : goal.decreases-bytes
decreases-bytes l = length l.rest
