use Rattle.std.proofs.Common.{◌≡◌, ◌≤◌, ◌+◌, length}
use Rattle.av_base.specs.Line.{lines_of}
use Rattle.av_base.specs.Limits.{greatest_values}
use Rattle.av_script.specs.Script.{header_from}
use Rattle.av_script.proofs.script.read_header.Given as goal

-- the lines that are left, under the limits so far, decide
abbrev pub invariant-lines : goal.invariant-lines
invariant-lines l =
    (header_from l.values l.line (lines_of l.rest) ≡ header_from greatest_values 1 (lines_of l.text)) × (l.line + length l.rest ≤ 1 + length l.text)

abbrev pub decreases-lines : goal.decreases-lines
decreases-lines l = length l.rest
