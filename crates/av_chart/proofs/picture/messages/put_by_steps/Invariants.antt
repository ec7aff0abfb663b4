use Rattle.std.proofs.Common.{◌≡◌, ◌++◌, map, take}
use Rattle.av_base.specs.Part.{spelt}
use Rattle.av_chart.specs.Messages.{sent_by_step}
use Rattle.av_chart.proofs.picture.messages.put_by_steps.Given as goal

-- what stands so far was put
abbrev pub invariant-loop-step : goal.invariant-loop-step
invariant-loop-step l = l.page.items ≡ l.initial.page.items ++ spelt (map (sent_by_step l.picture) (take l.step-index l.steps))
