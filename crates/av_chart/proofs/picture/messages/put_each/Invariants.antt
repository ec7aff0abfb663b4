use Rattle.std.proofs.Common.{◌≡◌, ◌++◌, take}
use Rattle.av_output.specs.Text.Messages.{placed}
use Rattle.av_chart.specs.Messages.{message_at}
use Rattle.av_chart.proofs.picture.messages.put_each.Given as goal

-- what stands so far was put
abbrev pub invariant-loop-order : goal.invariant-loop-order
invariant-loop-order l = l.page.items ≡ l.initial.page.items ++ placed (message_at l.picture l.way l.span) 0 (take l.order l.messages)
