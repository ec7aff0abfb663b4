-- Lists weighed item by item.
use Rattle.std.proofs.Common.{◌≡◌, ◌≢◌, ℕ, zero, suc, ◌+◌, ◌≤◌, List, [], ◌∷◌, ◌++◌, set, refl, sym, ap, arith, map, ◌∙◌}
use Rattle.std.specs.List.{flat_map}
use mathlib.Core.Option.{some, some-ne-none, some-injective}
use lib.ListN.{get_elem?}
use Rattle.av_pool.specs.Weights.{weigh}

module _ {A : Type 0} (f : A → ℕ) where
  pub weigh-append : (xs ys : List A) → weigh f (xs ++ ys) ≡ weigh f xs + weigh f ys
  weigh-append [] ys = omega arith
  weigh-append (x ∷ xs) ys = omega (arith, weigh-append xs ys)

  -- the total after a change of one
  pub weigh-set : (xs : List A) (pass : ℕ) (v w : A) → get_elem? xs pass ≡ some v → weigh f (set xs pass w) + f v ≡ weigh f xs + f w
  weigh-set [] pass v w at = absurd (some-ne-none v (sym at))
  weigh-set (x ∷ xs) zero v w at = let e : f x ≡ f v = ap f (some-injective x v at) in omega arith
  weigh-set (x ∷ xs) (suc pass) v w at = omega (arith, weigh-set xs pass v w at)

  pub weigh-at : (xs : List A) (pass : ℕ) (v : A) → get_elem? xs pass ≡ some v → f v ≤ weigh f xs
  weigh-at [] pass v at = absurd (some-ne-none v (sym at))
  weigh-at (x ∷ xs) zero v at = let e : f x ≡ f v = ap f (some-injective x v at) in omega arith
  weigh-at (x ∷ xs) (suc pass) v at = omega (arith, weigh-at xs pass v at)

  pub weigh-zero : (xs : List A) → ((pass : ℕ) (v : A) → get_elem? xs pass ≡ some v → f v ≡ 0) → weigh f xs ≡ 0
  weigh-zero [] h = refl
  weigh-zero (x ∷ xs) h = let a : f x ≡ 0 = h zero x refl in let b : weigh f xs ≡ 0 = weigh-zero xs (λ p v at. h (suc p) v at) in omega arith

  -- where the others weigh nothing, the total is the one's
  pub weigh-alone : (xs : List A) (pass : ℕ) (v : A) → get_elem? xs pass ≡ some v → ((j : ℕ) (u : A) → j ≢ pass → get_elem? xs j ≡ some u → f u ≡ 0) → weigh f xs ≡ f v
  weigh-alone [] pass v at h = absurd (some-ne-none v (sym at))
  weigh-alone (x ∷ xs) zero v at h =
      let e : f x ≡ f v = ap f (some-injective x v at) in
      let b : weigh f xs ≡ 0 = weigh-zero xs (λ p u there. h (suc p) u (λ n. omega arith) there) in omega arith
  weigh-alone (x ∷ xs) (suc pass) v at h =
      let a : f x ≡ 0 = h zero x (λ n. omega arith) refl in
      let b : weigh f xs ≡ f v = weigh-alone xs pass v at (λ j u n there. h (suc j) u (λ e. n (omega arith)) there) in omega arith

-- items weighed by what is in each of them, and mapped items
pub weigh-flat : {A B : Type 0} (f : A → List B) (h : B → ℕ) (xs : List A) → weigh (λ x. weigh h (f x)) xs ≡ weigh h (flat_map f xs)
weigh-flat f h [] = refl
weigh-flat f h (x ∷ xs) = ap (λ n. weigh h (f x) + n) (weigh-flat f h xs) ∙ sym (weigh-append h (f x) (flat_map f xs))

pub weigh-map : {A B : Type 0} (f : A → B) (h : B → ℕ) (xs : List A) → weigh h (map f xs) ≡ weigh (λ x. h (f x)) xs
weigh-map f h [] = refl
weigh-map f h (x ∷ xs) = ap (λ n. h (f x) + n) (weigh-map f h xs)
