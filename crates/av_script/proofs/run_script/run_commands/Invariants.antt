use Rattle.std.proofs.Common.{ℕ, ◌≡◌, ◌++◌, List}
use Rattle.std.specs.Io.KnownBytes.{Appends}
use Rattle.std.specs.VecDeque.{deque_len}
use Rattle.av_script.specs.CommandText.{commands_text}
use Rattle.av_script.proofs.run_script.run_commands.Given as goal

-- the lines so far were written, and those of the commands that are left make up the whole
abbrev pub invariant-commands : goal.invariant-commands
invariant-commands g l =
    (done : List ℕ) × Appends (g.W.Write.contents l.initial.writer) (g.W.Write.contents l.writer) done
    × (done ++ commands_text l.world l.commands.items ≡ commands_text l.initial.world l.initial.commands.items)

abbrev pub decreases-commands : goal.decreases-commands
decreases-commands g l = deque_len l.commands
