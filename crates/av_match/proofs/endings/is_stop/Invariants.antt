use Rattle.std.proofs.Common.{ℕ, ◌≡◌, ◌<◌, slice_index}
use Rattle.av_match.proofs.endings.is_stop.Given as goal

-- none of the states before has it
abbrev pub invariant-loop-stop : goal.invariant-loop-stop
invariant-loop-stop l = (s : ℕ) → s < l.stop-index → slice_index l.stops s ≡ l.number → ⊥
