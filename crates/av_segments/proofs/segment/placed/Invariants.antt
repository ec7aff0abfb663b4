use Rattle.std.proofs.Common.{◌≡◌, ◌++◌, drop}
use Rattle.av_segments.specs.Segments.{placed_from}
use Rattle.av_segments.proofs.segment.placed.Given as goal

-- the findings so far, and those of the rest
abbrev pub invariant-verdicts : goal.invariant-verdicts
invariant-verdicts l = l.found.items ++ placed_from l.place (drop l.place l.verdicts) ≡ placed_from 0 l.verdicts
