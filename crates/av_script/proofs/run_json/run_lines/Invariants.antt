use Rattle.std.proofs.Common.{ℕ, ◌≡◌, ◌≤◌, ◌+◌, ◌++◌, List, [], length}
use Rattle.std.specs.Io.KnownBytes.{Appends}
use Rattle.av_base.specs.Line.{lines_of}
use Rattle.av_script.specs.CommandObjects.{lines_json}
use Rattle.av_script.proofs.run_json.run_lines.Given as goal

-- the objects so far were written, those of the lines that are left make up the whole, and the room is empty
abbrev pub invariant-lines : goal.invariant-lines
invariant-lines g l =
    (done : List ℕ) × Appends (g.W.Write.contents l.initial.writer) (g.W.Write.contents l.writer) done
    × (done ++ lines_json l.world l.number (lines_of l.rest) ≡ lines_json l.initial.world 1 (lines_of l.text))
    × (l.room.items ≡ []) × (l.number + length l.rest ≤ 1 + length l.text)

abbrev pub decreases-lines : goal.decreases-lines
decreases-lines g l = length l.rest
