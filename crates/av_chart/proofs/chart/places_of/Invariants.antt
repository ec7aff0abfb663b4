use Rattle.std.proofs.Common.{◌≡◌, map, take}
use Rattle.av_chart.specs.Row.{height_of}
use Rattle.av_chart.proofs.chart.places_of.Given as goal

-- the heights of the steps so far
abbrev pub invariant-loop-step : goal.invariant-loop-step
invariant-loop-step l = l.heights.items ≡ map height_of (take l.step-index l.steps)
