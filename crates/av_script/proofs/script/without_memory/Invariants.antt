use Rattle.std.proofs.Common.{◌≡◌, ◌≤◌, ◌+◌, length, List}
use Rattle.av_base.specs.Line.{lines_of}
use Rattle.av_script.specs.declared.command.Command.{Command}
use Rattle.av_script.specs.Script.{commands_from, with_front}
use Rattle.av_script.proofs.script.without_memory.Given as goal

-- some commands in front, and those of the lines that are left, are those of all
abbrev pub invariant-lines : goal.invariant-lines
invariant-lines l =
    ((front : List Command) × (with_front front (commands_from l.line (lines_of l.rest)) ≡ commands_from l.first_number (lines_of l.text)))
    × (l.line + length l.rest ≤ l.first_number + length l.text)

abbrev pub decreases-lines : goal.decreases-lines
decreases-lines l = length l.rest
