use Rattle.std.proofs.Common.{◌≡◌, false, take}
use Rattle.std.specs.List.{list_any}
use Rattle.av_chart.specs.Place.{shows}
use Rattle.av_chart.proofs.picture.messages.any_shown.Given as goal

-- none so far is shown
abbrev pub invariant-loop-step : goal.invariant-loop-step
invariant-loop-step l = list_any (shows l.places) (take l.step-index l.steps) ≡ false
