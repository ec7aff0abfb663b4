use Rattle.std.proofs.Common.{◌≡◌, ◌++◌, take}
use Rattle.av_chart.specs.Mark.{marks_text}
use Rattle.av_chart.proofs.mark.put_marks.Given as goal

-- the marks so far were put
abbrev pub invariant-loop-mark : goal.invariant-loop-mark
invariant-loop-mark l = l.page.items ≡ l.initial.page.items ++ marks_text (take l.mark-index l.marks)
