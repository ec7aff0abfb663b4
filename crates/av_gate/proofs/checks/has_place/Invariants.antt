use Rattle.std.proofs.Common.{◌≡◌, ◌≤◌, ◌-◌, ◌==◌, drop, length, take}
use Rattle.std.specs.List.{count_by}
use Rattle.av_gate.proofs.checks.has_place.Given as goal

-- it stands neither below low nor from high on
pub record Invariant (l : goal.Live-halves) : Type 0 where
  pub order : l.low ≤ l.high
  pub within : l.high ≤ length l.calls
  pub below : count_by (λ c. c.place == l.place) (take l.low l.calls) ≡ 0
  pub above : count_by (λ c. c.place == l.place) (drop l.high l.calls) ≡ 0

abbrev pub invariant-halves : goal.invariant-halves
invariant-halves l = Invariant l

abbrev pub decreases-halves : goal.decreases-halves
decreases-halves l = l.high - l.low
