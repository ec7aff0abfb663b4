use Rattle.std.proofs.Common.{◌≡◌, ◌≤◌, ◌+◌, length}
use Rattle.av_base.specs.Line.{lines_of}
use Rattle.av_import.specs.Import.{after_lines}
use Rattle.av_import.proofs.import.take_lines.Given as goal

-- the lines left decide
abbrev pub invariant-lines : goal.invariant-lines
invariant-lines g l =
    (after_lines l.form l.import (lines_of l.rest) ≡ after_lines l.form l.initial.import (lines_of l.fn.content))
    × (l.number + length l.rest ≤ 1 + length l.fn.content)

abbrev pub decreases-lines : goal.decreases-lines
decreases-lines g l = length l.rest
