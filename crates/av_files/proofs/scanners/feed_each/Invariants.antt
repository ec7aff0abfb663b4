use Rattle.std.proofs.Common.{ℕ, ◌≤◌, ◌+◌, ◌++◌, List, length}
use Rattle.av_files.proofs.SeveralLemmas.{AreHalfFed}
use Rattle.av_files.specs.Findings.{AreScans}
use Rattle.av_files.proofs.scanners.feed_each.Given as goal

-- the first scans have taken the piece, and the others not yet
abbrev pub invariant-scans : goal.invariant-scans
invariant-scans l =
    (bytes : ℕ) (c : List ℕ) → AreScans l.scanners bytes c l.initial.scans → length c + length l.piece ≤ bytes
    → AreHalfFed l.i l.scanners bytes c (c ++ l.piece) l.scans
