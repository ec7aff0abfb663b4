use Rattle.std.proofs.Common.{ℕ, ◌≡◌, ◌++◌, List}
use Rattle.std.specs.Io.KnownBytes.{Appends}
use Rattle.av_generate.specs.Generated.{lines_drawn}
use Rattle.av_generate.proofs.script.write_lines.Given as goal

-- the lines so far were written, and those that are left make up the whole
abbrev pub invariant-lines : goal.invariant-lines
invariant-lines g l =
    (done : List ℕ) × Appends (g.W.Write.contents l.initial.writer) (g.W.Write.contents l.writer) done
    × (done ++ lines_drawn l.left l.generator l.world ≡ lines_drawn l.commands l.initial.generator l.initial.world)

abbrev pub decreases-lines : goal.decreases-lines
decreases-lines g l = l.left
