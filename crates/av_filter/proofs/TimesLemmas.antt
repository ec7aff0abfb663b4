-- How often a number stands in a list.
use Rattle.std.proofs.Common.{◌≡◌, ℕ, ◌+◌, Bool, true, false, cond, not, List, [], ◌∷◌, ◌++◌, map, filter, if◌then◌else◌, ◌==◌, refl, arith}
use Rattle.av_filter.specs.Once.{times}

-- those that pass and those that don't are all
pub times-parts : {A : Type 0} (f : A → ℕ) (p : A → Bool) (n : ℕ) (xs : List A) → times n (map f xs) ≡ times n (map f (filter p xs)) + times n (map f (filter (λ x. not (p x)) xs))
times-parts f p n [] = refl
times-parts f p n (x ∷ xs) =
    elim (p x) as (λ b. (if f x == n then 1 else 0) + times n (map f xs) ≡ times n (map f (cond b (x ∷ filter p xs) (filter p xs))) + times n (map f (cond (not b) (x ∷ filter (λ y. not (p y)) xs) (filter (λ y. not (p y)) xs)))) [
      | true ↦ omega (arith, times-parts f p n xs)
      | false ↦ omega (arith, times-parts f p n xs)
    ]

pub times_map-append : {A : Type 0} (f : A → ℕ) (n : ℕ) (xs ys : List A) → times n (map f (xs ++ ys)) ≡ times n (map f xs) + times n (map f ys)
times_map-append f n [] ys = omega arith
times_map-append f n (x ∷ xs) ys = omega (arith, times_map-append f n xs ys)
