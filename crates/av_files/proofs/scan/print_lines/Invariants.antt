use Rattle.std.proofs.Common.{take}
use Rattle.std.specs.Io.KnownBytes.{Appends}
use Rattle.av_files.specs.Scan.{shown_lines}
use Rattle.av_files.proofs.scan.print_lines.Given as goal

-- the lines so far were written
abbrev pub invariant-loop-file : goal.invariant-loop-file
invariant-loop-file g l =
    Appends (g.W.Write.contents l.initial.out) (g.W.Write.contents l.out) (shown_lines l.wishes l.set (take l.file-index l.scanned))
