use Rattle.std.proofs.Common.{◌≡◌, ◌++◌, map, take}
use Rattle.av_base.specs.Part.{spelt}
use Rattle.av_chart.specs.Bars.{bar_shown}
use Rattle.av_chart.proofs.picture.bars.put_bars.Given as goal

-- what stands so far was put
abbrev pub invariant-loop-bar : goal.invariant-loop-bar
invariant-loop-bar l = l.page.items ≡ l.initial.page.items ++ spelt (map (bar_shown l.picture l.kind) (take l.bar-index l.bars))
