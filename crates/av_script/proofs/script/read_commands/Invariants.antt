use Rattle.std.proofs.Common.{◌≡◌, ◌≤◌, ◌+◌, length}
use Rattle.av_base.specs.Line.{lines_of}
use Rattle.av_script.specs.Script.{commands_from, with_front}
use Rattle.av_script.proofs.script.read_commands.Given as goal

-- the commands so far and those of the lines that are left are those of all
abbrev pub invariant-lines : goal.invariant-lines
invariant-lines l =
    (with_front l.commands.items (commands_from l.line (lines_of l.rest)) ≡ commands_from l.first_number (lines_of l.text))
    × (l.line + length l.rest ≤ l.first_number + length l.text)

abbrev pub decreases-lines : goal.decreases-lines
decreases-lines l = length l.rest
