use Rattle.std.proofs.Common.{◌+◌, take}
use Rattle.std.specs.Io.KnownBytes.{Appends}
use Rattle.av_output.specs.Text.Messages.{work_text, placed}
use Rattle.av_output.proofs.work.print_works.Given as goal

-- the lines of the work so far were written
abbrev pub invariant-loop-index : goal.invariant-loop-index
invariant-loop-index g l =
    Appends (g.W.Write.contents l.initial.writer) (g.W.Write.contents l.writer) (placed work_text (l.from + 1) (take l.index l.work-items))
