use Rattle.std.proofs.Common.{◌≡◌, ◌++◌, take}
use Rattle.av_output.specs.Text.Messages.{placed}
use Rattle.av_chart.specs.Picture.{step_at}
use Rattle.av_chart.proofs.picture.put_each_step.Given as goal

-- what stands so far was put
abbrev pub invariant-loop-index : goal.invariant-loop-index
invariant-loop-index l = l.page.items ≡ l.initial.page.items ++ placed (step_at l.picture) 0 (take l.index l.steps)
