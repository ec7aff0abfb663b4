-- Who waits here, and which opens the filter holds.
use Rattle.std.specs.Prelude.{◌≡◌, ℕ, ◌≤◌, List, map, Some}
use Rattle.std.specs.List.{AllByRecursion}
use Rattle.av_context.specs.Contexts.{at}
use Rattle.av_filter.specs.Once.{times}
use Rattle.av_filter_table.specs.declared.pended.Pended.{Pended}
use Rattle.av_guard.specs.Telling.{Waiters}
use Rattle.av_guard.specs.declared.waiter.Waiter.{Waiter}

-- one waits here for the open of this number, and for this stream
abbrev pub IsAwaited : Waiters → ℕ → ℕ → Type 0
IsAwaited waiting n s = (w : Waiter) × (at waiting n ≡ Some w) × (w.stream ≡ s)

-- As often as one waits here for an open, the filter holds it, at most once; and who waits for it waits for its stream.
pub record ArePaired (pended : List Pended) (waiting : Waiters) : Type 0 where
  pub each : (n : ℕ) → times n (map (λ e. e.0) waiting) ≡ times n (map (λ p. p.held.open_id) pended)
  pub once : (n : ℕ) → times n (map (λ p. p.held.open_id) pended) ≤ 1
  pub streams : AllByRecursion (λ p. IsAwaited waiting p.held.open_id p.held.stream) pended
