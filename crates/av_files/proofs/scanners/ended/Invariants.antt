use Rattle.std.proofs.Common.{ℕ, ◌≡◌, ◌++◌, List, length}
use Rattle.av_files.specs.Findings.{AreScans, findings_from, findings_of}
use Rattle.av_files.proofs.scanners.ended.Given as goal

-- what was found so far, and what the scans that are left have found, is all
abbrev pub invariant-scans : goal.invariant-scans
invariant-scans l =
    (bytes : ℕ) (c : List ℕ) → AreScans l.fn.scanners bytes c l.fn.scans
    → AreScans l.rest bytes c l.left × (l.found.items ++ findings_from (length l.found.items) l.rest c ≡ findings_of l.fn.scanners c)

abbrev pub decreases-scans : goal.decreases-scans
decreases-scans l = length l.left
