-- The first bytes of what comes.
use Rattle.std.proofs.Common.{arith, ℕ, ◌≡◌, ◌≤◌, zero, suc, List, [], ◌∷◌, ◌++◌, length, take, refl, ap}

-- as many are there
pub is_full : (n : ℕ) (front rest : List ℕ) → length front ≡ n → take n (front ++ rest) ≡ front
is_full zero [] rest is = refl
is_full zero (b ∷ bs) rest is = absurd (omega (arith, is))
is_full (suc n) [] rest is = absurd (omega (arith, is))
is_full (suc n) (b ∷ bs) rest is = ap (λ l. b ∷ l) (is_full n bs rest (omega (arith, is)))

take_none : (n : ℕ) → ◌≡◌ {A = List ℕ} (take n []) []
take_none zero = refl
take_none (suc n) = refl

-- no more are there
pub is_all : (n : ℕ) (front : List ℕ) → length front ≤ n → take n (front ++ []) ≡ front
is_all n [] is = take_none n
is_all zero (b ∷ bs) is = absurd (omega (arith, is))
is_all (suc n) (b ∷ bs) is = ap (λ l. b ∷ l) (is_all n bs (omega (arith, is)))
