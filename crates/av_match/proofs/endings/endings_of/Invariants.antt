use Rattle.std.proofs.Common.{ℕ, ◌≡◌, ◌<◌, ◌+◌, length, slice_index}
use Rattle.av_match.specs.Endings.{AreEndingsOf}
use Rattle.av_match.proofs.endings.endings_of.Given as goal

-- a list for each pattern so far
abbrev pub invariant-loop-index : goal.invariant-loop-index
invariant-loop-index l = record {
  size : length l.lists.items ≡ l.index;
  each : (i : ℕ) → i < l.index → (s : ℕ) → s < length l.stops → slice_index l.stops s ≡ i + 1 → AreEndingsOf l.patterns l.lists.items i;
}
