use Rattle.std.proofs.Common.{◌≡◌, length}
use Rattle.av_files.specs.Findings.{is_found}
use Rattle.av_files.proofs.finding.is_found.Given as goal

-- none so far
abbrev pub invariant-findings : goal.invariant-findings
invariant-findings l = is_found l.rest ≡ is_found l.fn.findings

abbrev pub decreases-findings : goal.decreases-findings
decreases-findings l = length l.rest
