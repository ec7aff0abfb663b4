use Rattle.std.proofs.Common.{◌≡◌, ◌≤◌, take}
use Rattle.av_chart.specs.Picture.{waiting}
use Rattle.av_chart.proofs.picture.waiting.Given as goal

-- those so far were counted
abbrev pub invariant-loop-bar : goal.invariant-loop-bar
invariant-loop-bar l = (l.count ≡ waiting (take l.bar-index l.bars)) × (l.count ≤ l.bar-index)
