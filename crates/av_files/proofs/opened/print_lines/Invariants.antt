use Rattle.std.proofs.Common.{take}
use Rattle.std.specs.Io.KnownBytes.{Appends}
use Rattle.av_files.specs.Opened.{opened_lines}
use Rattle.av_files.proofs.opened.print_lines.Given as goal

-- the lines so far were written
abbrev pub invariant-loop-file : goal.invariant-loop-file
invariant-loop-file g l =
    Appends (g.W.Write.contents l.initial.out) (g.W.Write.contents l.out) (opened_lines l.wishes (take l.file-index l.opened))
