use Rattle.std.proofs.Common.{ℕ, ◌≡◌, ◌++◌, List, length}
use Rattle.std.specs.Io.KnownBytes.{Appends}
use Rattle.av_scan.specs.Outcome.{findings_text}
use Rattle.av_scan.proofs.report.print_findings.Given as goal

-- the lines so far were written, and those that are left are the others
abbrev pub invariant-findings : goal.invariant-findings
invariant-findings g l =
    (told : List ℕ) × Appends (g.W.Write.contents l.fn.out) (g.W.Write.contents l.out) told
    × (told ++ findings_text l.fn.by.wishes l.fn.by.scanners.now l.fn.file.name.now l.rest ≡ findings_text l.fn.by.wishes l.fn.by.scanners.now l.fn.file.name.now l.fn.file.findings.now)

abbrev pub decreases-findings : goal.decreases-findings
decreases-findings g l = length l.rest
