use Rattle.std.proofs.Common.{◌≡◌, ◌-◌, [], length, take}
use Rattle.av_segments.specs.Segments.{verdicts_of}
use Rattle.av_segments.proofs.segment.verdicts_of_nothing.Given as goal

-- the verdicts under the first sets
abbrev pub invariant-sets : goal.invariant-sets
invariant-sets l = l.verdicts.items ≡ verdicts_of (take (length l.verdicts.items) l.fn.scanners) []

abbrev pub decreases-sets : goal.decreases-sets
decreases-sets l = length l.fn.scanners - length l.verdicts.items
