use Rattle.std.proofs.Common.{ℕ, zero, suc, Option, subst, ◌≡◌, ◌<◌, ◌+◌, ◌++◌, List, [], ◌∷◌, length, take, drop, get_or, refl, sym, ap, ◌∙◌, append_assoc, append-nil, arith}
use Rattle.std.proofs.KnownBytes.{Appends-trans}
use Rattle.std.specs.Io.KnownBytes.{Appends}
use Rattle.av_base.proofs.DeviceLemmas.{prefix_after, prefix_before}
use Rattle.av_base.specs.Device.{AppendsPrefix}
use Rattle.av_output.specs.Text.Messages.{placed}

-- one more
pub placed_next : {A B : Type 0} (f : ℕ → A → List B) (k : ℕ) (xs : List A) (i : ℕ) (d : A) → i < length xs
    → placed f k (take (suc i) xs) ≡ placed f k (take i xs) ++ f (k + i) (get_or xs i d)
placed_next f k [] i d lt = absurd (omega arith)
placed_next f k (x ∷ xs) zero d lt = let same : k + 0 ≡ k = omega arith in rw same (append-nil (f k x))
placed_next f k (x ∷ xs) (suc i) d lt =
    let lower : i < length xs = omega arith in
    let place : k + 1 + i ≡ k + suc i = omega arith in
    ap (λ t. f k x ++ t) (placed_next f (k + 1) xs i d lower ∙ ap (λ n. placed f (k + 1) (take i xs) ++ f n (get_or xs i d)) place)
    ∙ sym (append_assoc (f k x) (placed f (k + 1) (take i xs)) (f (k + suc i) (get_or xs i d)))

-- what is told before one, of that one, and behind it
pub placed_around : {A B : Type 0} (f : ℕ → A → List B) (k : ℕ) (xs : List A) (i : ℕ) (d : A) → i < length xs
    → placed f k (take i xs) ++ (f (k + i) (get_or xs i d) ++ placed f (k + suc i) (drop (suc i) xs)) ≡ placed f k xs
placed_around f k [] i d lt = absurd (omega arith)
placed_around f k (x ∷ xs) zero d lt = let same : k + 0 ≡ k = omega arith in let next : k + suc 0 ≡ k + 1 = omega arith in rw same (rw next refl)
placed_around f k (x ∷ xs) (suc i) d lt =
    let lower : i < length xs = omega arith in
    let place : k + suc i ≡ k + 1 + i = omega arith in
    let next : k + suc (suc i) ≡ k + 1 + suc i = omega arith in
    append_assoc (f k x) (placed f (k + 1) (take i xs)) (f (k + suc i) (get_or xs i d) ++ placed f (k + suc (suc i)) (drop (suc i) xs))
    ∙ ap (λ t. f k x ++ t) (rw place (rw next (placed_around f (k + 1) xs i d lower)))

-- a text behind those of the items before it, under its number
module _ {A : Type 0} (f : ℕ → A → List ℕ) (first : ℕ) (items : List A) (i : ℕ) (x : A) (at : i < length items) (is : x ≡ get_or items i x) (number : ℕ) (place : number ≡ first + i) (a b c : Option (List ℕ)) (before : Appends a b (placed f first (take i items))) where
  pub placed_wrote : Appends b c (f number x) → Appends a c (placed f first (take (i + 1) items))
  placed_wrote wrote =
      let next : suc i ≡ i + 1 = omega arith in
      let here = subst (Appends b c) (ap (λ n. f n x) place ∙ ap (f (first + i)) is) wrote in
      subst (Appends a c) (sym (placed_next f first items i x at) ∙ ap (λ n. placed f first (take n items)) next) (Appends-trans _ _ _ _ _ before here)

  -- or so much of it
  pub placed_broke : AppendsPrefix b c (f number x) → AppendsPrefix a c (placed f first items)
  placed_broke wrote =
      let here = subst (AppendsPrefix b c) (ap (λ n. f n x) place ∙ ap (f (first + i)) is) wrote in
      subst (AppendsPrefix a c) (placed_around f first items i x at) (prefix_after _ _ _ _ _ before (prefix_before _ _ _ (placed f (first + suc i) (drop (suc i) items)) here))
