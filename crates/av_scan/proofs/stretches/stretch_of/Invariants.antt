use Rattle.std.specs.Prelude.{◌≤◌}
use Rattle.av_scan.specs.Stretches.{IsFoundFrom}
use Rattle.av_scan.proofs.stretches.stretch_of.Given as goal

-- what was read so far was found
abbrev pub invariant-pieces : goal.invariant-pieces
invariant-pieces g l =
    (l.fn.from ≤ l.place) × (l.place ≤ l.fn.to) × IsFoundFrom (g.F.Read.remaining l.fn.file) l.fn.scanners l.fn.from l.place l.segment
