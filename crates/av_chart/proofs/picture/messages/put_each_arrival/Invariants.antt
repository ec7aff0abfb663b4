use Rattle.std.proofs.Common.{◌≡◌, ◌++◌, take}
use Rattle.av_output.specs.Text.Messages.{placed}
use Rattle.av_chart.specs.Messages.{arrival_shown}
use Rattle.av_chart.proofs.picture.messages.put_each_arrival.Given as goal

-- what stands so far was put
abbrev pub invariant-loop-order : goal.invariant-loop-order
invariant-loop-order l = l.page.items ≡ l.initial.page.items ++ placed (arrival_shown l.picture l.shown.way l.shown.sent.now l.shown.words.now) 0 (take l.order l.arrivals)
