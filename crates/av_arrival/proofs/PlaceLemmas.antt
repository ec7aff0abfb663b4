-- Where one stands behind bytes of a body that are passed over at once.
use Rattle.std.proofs.Common.{ℕ, ◌≡◌, ◌-◌, ◌<◌, ◌≤◌, ◌==◌, ◌||◌, Bool, true, false, nat_lt, List, [], ◌∷◌, length, drop, zero, suc, refl, ◌∙◌, arith}
use Rattle.std.proofs.lemmas.Bool.{lt-ltb, ne_eqb}
use Rattle.av_arrival.specs.Place.{Standing, behind, in_body, passed}

-- one byte and those behind it
pub over_all : (n : ℕ) (bytes : List ℕ) (s : Standing) → n < s.left → n < length bytes → passed bytes s ≡ behind (in_body (suc n) s).1 (passed (drop (suc n) bytes) (in_body (suc n) s).0)
over_all n [] s l h = absurd (omega (arith, h))
over_all zero (b ∷ bs) s l h = rw (lt-ltb 0 s.left l) refl
over_all (suc n) (b ∷ bs) s l h =
    let some : nat_lt 0 s.left ≡ true = lt-ltb 0 s.left (omega (arith, l)) in
    let none : (s.left - 1 == 0) ≡ false = ne_eqb (s.left - 1) 0 (λ e. omega (arith, l, e)) in
    let less : s.left - 1 - suc n ≡ s.left - suc (suc n) = omega (arith, l) in
    rw (some, none) (over_all n bs (record s { left = s.left - 1 }) (omega (arith, l)) (omega (arith, h)) ∙ rw less refl)

-- as many as are there, and no more than are still to come
pub over : (bytes : List ℕ) (s : Standing) (count : ℕ) → 0 < count → count ≤ s.left → count ≤ length bytes → passed bytes s ≡ behind (in_body count s).1 (passed (drop count bytes) (in_body count s).0)
over bytes s zero some l h = absurd (omega (arith, some))
over bytes s (suc n) some l h = over_all n bytes s (omega (arith, l)) (omega (arith, h))

-- one after another
pub in_turn : (first then : Bool) (r : Standing × Bool) → behind first (behind then r) ≡ behind (first || then) r
in_turn true then r = refl
in_turn false then r = refl
