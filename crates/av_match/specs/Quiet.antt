use Rattle.std.specs.Prelude.{ℕ, ◌≡◌, ◌+◌, ◌*◌, List}
use Rattle.av_sigset.specs.declared.signature.Pattern.{Pattern}
use Rattle.av_match.specs.Ranged.{reach_find}
use Rattle.av_match.specs.declared.cells.Reached.TheVariants.{Through}
use Rattle.av_match.specs.declared.lanes.SixStates.{SixStates}

-- six parts, each so many bytes behind the one before, in which nothing is found: the first from a state at a place of a chunk before
-- which so many bytes have come, the others from the root; and the states to which they lead
pub record AreQuiet (ps : List Pattern) (cells : List ℕ) (fed from place step : ℕ) (u v w x y z : List ℕ) (s : SixStates) : Type 0 where
  pub a : reach_find ps cells fed from place u ≡ Through s.a
  pub b : reach_find ps cells fed 0 (place + step) v ≡ Through s.b
  pub c : reach_find ps cells fed 0 (place + 2 * step) w ≡ Through s.c
  pub d : reach_find ps cells fed 0 (place + 3 * step) x ≡ Through s.d
  pub e : reach_find ps cells fed 0 (place + 4 * step) y ≡ Through s.e
  pub f : reach_find ps cells fed 0 (place + 5 * step) z ≡ Through s.f
