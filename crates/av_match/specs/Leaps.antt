use Rattle.std.specs.Prelude.{ℕ, ◌≡◌, ◌+◌, ◌*◌, List, slice_index}
use Rattle.av_match.specs.Shifts.{pair_at}

-- eight pairs, each of which lets its window move by all of its bytes but one
pub record AreFree (shifts pairs : List ℕ) (most at : ℕ) : Type 0 where
  pub a : slice_index shifts (pair_at pairs at) ≡ most
  pub b : slice_index shifts (pair_at pairs (at + most)) ≡ most
  pub c : slice_index shifts (pair_at pairs (at + 2 * most)) ≡ most
  pub d : slice_index shifts (pair_at pairs (at + 3 * most)) ≡ most
  pub e : slice_index shifts (pair_at pairs (at + 4 * most)) ≡ most
  pub f : slice_index shifts (pair_at pairs (at + 5 * most)) ≡ most
  pub g : slice_index shifts (pair_at pairs (at + 6 * most)) ≡ most
  pub h : slice_index shifts (pair_at pairs (at + 7 * most)) ≡ most
