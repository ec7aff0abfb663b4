use Rattle.std.proofs.Common.{take}
use Rattle.std.specs.Io.KnownBytes.{Appends}
use Rattle.avguard.specs.Told.{told_lines}
use Rattle.avguard.proofs.told.print_each.Given as goal

-- the lines so far were written
abbrev pub invariant-loop-file : goal.invariant-loop-file
invariant-loop-file g l =
    Appends (g.W.Write.contents l.initial.out) (g.W.Write.contents l.out) (told_lines l.wishes (take l.file-index l.told))
