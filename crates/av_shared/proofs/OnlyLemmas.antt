-- A catalogue that has one set only, and patterns that are the same so far.
use Rattle.std.proofs.Common.{if◌then◌else◌, ◌≡◌, ◌==◌, ◌+◌, ◌<◌, ℕ, zero, suc, true, false, eq-eqb, List, [], ◌∷◌, ◌++◌, map, take, length, slice_get, None, Some, arith, refl, sym, ap, ◌∙◌, subst}
use Rattle.std.proofs.lemmas.List.{length-map}
use Rattle.std.proofs.lemmas.Option.{none-some}
use Rattle.av_shared.proofs.AmongLemmas.{take_got}
use Rattle.av_sigset.specs.Catalogue.{set_at}
use Rattle.av_sigset.specs.Publication.{Publication, publication_of}
use Rattle.av_sigset.specs.Set.{NumberedSet}

pub only_set : (sets : List NumberedSet) (version : ℕ) (s : NumberedSet) → length sets ≡ 1 → set_at sets version ≡ Some s → sets ≡ s ∷ []
unfolding set_at
only_set [] version s one at = absurd (none-some s at)
only_set (x ∷ []) version s one at =
    (elim (x.version == version) as (λ b. (if b then Some x else None) ≡ Some s → x ∷ [] ≡ s ∷ []) [
      | true ↦ λ h. let same : x ≡ s = cc (h) in ap (λ (y : NumberedSet). y ∷ []) same
      | false ↦ λ h. absurd (none-some s h)
    ]) at
only_set (x ∷ y ∷ xs) version s one at = absurd (omega (arith, one))

first_of : (s t : Publication) → s ∷ [] ≡ t ∷ [] → s ≡ t
first_of s t e = cc

pub only_there : (sets : List NumberedSet) (s : NumberedSet) → map publication_of sets ≡ publication_of s ∷ [] → ¬ (set_at sets s.version ≡ None)
unfolding set_at
only_there [] s only at = absurd (cc)
only_there (x ∷ y ∷ xs) s only at = absurd (cc)
only_there (x ∷ []) s only at =
    let same : publication_of x ≡ publication_of s = first_of (publication_of x) (publication_of s) only in
    let there : (x.version == s.version) ≡ true = eq-eqb x.version s.version (ap (λ (p : Publication). p.version) same) in
    none-some x (sym (subst (λ b. (if b then Some x else None) ≡ None) there at))

pub only_same : (sets : List NumberedSet) (version : ℕ) (s t : NumberedSet) → map publication_of sets ≡ publication_of t ∷ [] → set_at sets version ≡ Some s → publication_of s ≡ publication_of t
only_same sets version s t only at =
    let one : length sets ≡ 1 = sym (length-map sets publication_of) ∙ ap length only in
    first_of (publication_of s) (publication_of t) (sym (ap (map publication_of) (only_set sets version s one at)) ∙ only)

-- two lists that begin alike, and have the same at the next place
pub same_more : {A : Type 0} (xs ys : List A) (i : ℕ) → i < length xs → take i xs ≡ take i ys → slice_get xs i ≡ slice_get ys i → take (i + 1) xs ≡ take (i + 1) ys
same_more xs ys i lt before here =
    (elim (slice_get xs i) as (λ o. slice_get xs i ≡ o → take (i + 1) xs ≡ take (i + 1) ys) [
      | None ↦ λ e. absurd (within xs i lt e)
      | Some x ↦ λ e. take_got xs i x e ∙ (ap (λ zs. zs ++ x ∷ []) before ∙ sym (take_got ys i x (sym here ∙ e)))
    ]) refl
  where
    within : {A : Type 0} (xs : List A) (i : ℕ) → i < length xs → ¬ (slice_get xs i ≡ None)
    within [] i lt e = absurd (omega (arith, lt))
    within (x ∷ xs) zero lt e = none-some x (sym e)
    within (x ∷ xs) (suc i) lt e = within xs i (omega (arith, lt)) e
