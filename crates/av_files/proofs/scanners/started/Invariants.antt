use Rattle.std.proofs.Common.{◌++◌, List, [], length}
use Rattle.av_match.specs.Scanning.{ScanState}
use Rattle.av_files.specs.Findings.{AreScans}
use Rattle.av_files.proofs.scanners.started.Given as goal

-- the scans so far, and those of the sets that are left, are all
abbrev pub invariant-scanners : goal.invariant-scanners
invariant-scanners l = (more : List ScanState) → AreScans l.rest l.fn.most [] more → AreScans l.fn.scanners l.fn.most [] (l.scans.items ++ more)

abbrev pub decreases-scanners : goal.decreases-scanners
decreases-scanners l = length l.rest
