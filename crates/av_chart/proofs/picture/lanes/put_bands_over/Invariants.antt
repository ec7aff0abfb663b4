use Rattle.std.proofs.Common.{◌≡◌, ◌++◌, take}
use Rattle.av_output.specs.Text.Messages.{placed}
use Rattle.av_chart.specs.Picture.{band_over}
use Rattle.av_chart.proofs.picture.lanes.put_bands_over.Given as goal

-- what stands so far was put
abbrev pub invariant-loop-index : goal.invariant-loop-index
invariant-loop-index l = l.page.items ≡ l.initial.page.items ++ placed (band_over l.picture) 0 (take l.index l.steps)
