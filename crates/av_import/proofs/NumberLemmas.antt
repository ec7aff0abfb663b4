use Rattle.std.proofs.Common.{ℕ, ◌≡◌, ◌≤◌, ◌<◌, true, false, List, [], ◌∷◌, length, drop, get_or, nat_eq, refl, arith}
use Rattle.av_import.specs.Number.{without_zeros}

pub one_zero : (w : List ℕ) → 1 < length w → nat_eq (get_or w 0 0) 48 ≡ true → without_zeros (drop 1 w) ≡ without_zeros w
unfolding without_zeros
one_zero [] long zero_first = absurd (omega arith)
one_zero (b ∷ []) long zero_first = absurd (omega arith)
one_zero (b ∷ c ∷ bs) long zero_first = rw zero_first refl

pub one_left : (w : List ℕ) → length w ≤ 1 → without_zeros w ≡ w
unfolding without_zeros
one_left [] short = refl
one_left (b ∷ []) short = refl
one_left (b ∷ c ∷ bs) short = absurd (omega arith)

pub no_zero : (w : List ℕ) → nat_eq (get_or w 0 0) 48 ≡ false → without_zeros w ≡ w
unfolding without_zeros
no_zero [] other = refl
no_zero (b ∷ []) other = refl
no_zero (b ∷ c ∷ bs) other = rw other refl
