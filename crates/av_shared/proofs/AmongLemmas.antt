-- Members of a list that is split, of a place in a list, and of lists that stand behind one another.
use Rattle.std.proofs.Common.{◌≡◌, ℕ, ◌+◌, ◌<◌, ◌⊎◌, List, [], ◌∷◌, ◌++◌, Some, zero, suc, take, length, get_or, slice_get, sym, ap, ◌∙◌, subst, inl, inr, arith}
use Rattle.std.specs.List.{flat_map}
use Rattle.std.proofs.lemmas.Grind.{flat_map-append}
use Rattle.std.proofs.lemmas.List.{take_more}
use Rattle.std.proofs.lemmas.Option.{get_or_from_slice_get, slice_get_within}
use Rattle.av_base.proofs.AmongLemmas.{among_left, among_right}
use Rattle.av_base.specs.Among.{Among}

pub among_split : {A : Type 0} (x : A) (xs ys : List A) → Among x (xs ++ ys) → Among x xs ⊎ Among x ys
among_split x [] ys a = inr a
among_split x (z ∷ zs) ys (inl e) = inl (inl e)
among_split x (z ∷ zs) ys (inr a) =
    elim (among_split x zs ys a) as (λ s. Among x (z ∷ zs) ⊎ Among x ys) [ inl b ↦ inl (inr b) | inr b ↦ inr b ]

-- ---- a place in a list

pub among_at : {A : Type 0} (xs : List A) (i : ℕ) (x : A) → i < length xs → x ≡ get_or xs i x → Among x xs
among_at [] i x lt e = absurd (omega (arith, lt))
among_at (y ∷ ys) zero x lt e = inl e
among_at (y ∷ ys) (suc i) x lt e = inr (among_at ys i x (omega (arith, lt)) e)

pub among_got : {A : Type 0} (xs : List A) (i : ℕ) (x : A) → slice_get xs i ≡ Some x → Among x xs
among_got xs i x h = among_at xs i x (slice_get_within xs i x h) (sym (get_or_from_slice_get xs i x x h))

pub take_got : {A : Type 0} (xs : List A) (i : ℕ) (x : A) → slice_get xs i ≡ Some x → take (i + 1) xs ≡ take i xs ++ x ∷ []
take_got xs i x h = take_more xs i x (slice_get_within xs i x h) ∙ ap (λ y. take i xs ++ y ∷ []) (get_or_from_slice_get xs i x x h)

pub not_among_more : {A : Type 0} (xs : List A) (i : ℕ) (x m : A) → slice_get xs i ≡ Some x → ¬ Among m (take i xs) → ¬ (m ≡ x) → ¬ Among m (take (i + 1) xs)
not_among_more xs i x m h before here a =
    elim (among_split m (take i xs) (x ∷ []) (subst (Among m) (take_got xs i x h) a)) as (λ _. ⊥) [ inl b ↦ before b | inr (inl e) ↦ here e | inr (inr b) ↦ b ]

-- ---- what the first of a list sent

module _ {E A : Type 0} (f : E → List A) (m : A) where
  pub among_sent : (xs : List E) (i n : ℕ) (x : E) → slice_get xs i ≡ Some x → i < n → Among m (f x) → Among m (flat_map f (take n xs))
  among_sent xs i n x h lt a = go xs i n (slice_get_within xs i x h) (get_or_from_slice_get xs i x x h) lt
    where
      go : (xs : List E) (i n : ℕ) → i < length xs → get_or xs i x ≡ x → i < n → Among m (flat_map f (take n xs))
      go [] i n short e lt = absurd (omega (arith, short))
      go (y ∷ ys) i zero short e lt = absurd (omega (arith, lt))
      go (y ∷ ys) zero (suc n) short e lt = among_left m (f y) _ (subst (λ (z : E). Among m (f z)) (sym e) a)
      go (y ∷ ys) (suc i) (suc n) short e lt = among_right m (f y) _ (go ys i n (omega (arith, short)) e (omega (arith, lt)))

  -- (what is not among those before, nor in this one)
  pub not_sent : (xs : List E) (i : ℕ) (x : E) → slice_get xs i ≡ Some x → ¬ Among m (flat_map f (take i xs)) → ¬ Among m (f x) → ¬ Among m (flat_map f (take (i + 1) xs))
  not_sent xs i x h before here a =
      let all : flat_map f (take (i + 1) xs) ≡ flat_map f (take i xs) ++ flat_map f (x ∷ []) = ap (flat_map f) (take_got xs i x h) ∙ flat_map-append f (take i xs) (x ∷ []) in
      elim (among_split m (flat_map f (take i xs)) (f x ++ []) (subst (Among m) all a)) as (λ _. ⊥) [
        | inl b ↦ before b
        | inr b ↦ elim (among_split m (f x) [] b) as (λ _. ⊥) [ inl c ↦ here c | inr c ↦ c ]
      ]
