-- The ranges in which the streams of every volume are: those that messages want.
use Rattle.std.specs.Prelude.{ℕ, ◌≤◌, length}
use Rattle.std.specs.List.{AllByRecursion}
use Rattle.av_base.specs.Limits.{AreInRange}
use Rattle.av_base.specs.declared.limits.LimitValues.{LimitValues}
use Rattle.av_store.specs.Store.{Store}
use Rattle.av_store.specs.declared.stream.Stream.{Stream}

-- a stream's number, generation and length
pub record IsInBounds (limits : LimitValues) (s : ℕ × Stream) : Type 0 where
  pub number : 1 ≤ s.0
  pub low : 1 ≤ s.1.generation
  pub high : s.1.generation ≤ limits.generation
  pub size : length s.1.bytes ≤ limits.length

-- the limits are in range, and so is each stream under them
pub record AreInBounds (v : Store) : Type 0 where
  pub limits : AreInRange v.limits
  pub streams : AllByRecursion (IsInBounds v.limits) v.streams
