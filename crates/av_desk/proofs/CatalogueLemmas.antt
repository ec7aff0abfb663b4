-- The publications of a catalogue.
use Rattle.std.proofs.Common.{◌≡◌, ℕ, ◌-◌, ◌<◌, ◌≤◌, ◌==◌, suc, true, List, [], ◌∷◌, length, map, drop, Some, None, refl, sym, ap, ◌∙◌, subst, arith, eq-eqb}
use Rattle.std.proofs.lemmas.List.{length-map}
use Rattle.std.specs.List.{AllByRecursion as Each}
use Rattle.av_desk.specs.Book.{IsBuilt, compiled, opened_at}
use Rattle.av_service.specs.Audit.{IsCatalogue}
use Rattle.av_sigset.specs.Catalogue.{IsFalling, latest, newest, set_at}
use Rattle.av_sigset.specs.Publication.{Publication, latest_as, publication_of}
use Rattle.av_sigset.specs.Set.{IsSet, NumberedSet}

-- the version published last
pub latest_of : (sets : List NumberedSet) → latest_as (map publication_of sets) ≡ latest sets
latest_of [] = refl
latest_of (s ∷ sets) = refl

above : (sets : List NumberedSet) (v : ℕ) → 1 ≤ v → Each (λ (t : NumberedSet). t.version < v) sets → latest_as (map publication_of sets) < v
above [] v some all = omega (arith, some)
above (s ∷ sets) v some all = all.0

-- sets in their ranges whose versions fall are a catalogue
pub is_catalogue : (sets : List NumberedSet) → IsFalling sets → Each IsSet sets → IsCatalogue (map publication_of sets)
is_catalogue [] falling each = tt
is_catalogue (s ∷ sets) falling each = (above sets s.version each.0.version falling.0, each.0.ranges.lengths, is_catalogue sets falling.1 each.1)

-- the set of the newest version is the newest
pub newest_is : (sets : List NumberedSet) (v : ℕ) → newest sets ≡ Some v → (s : NumberedSet) → set_at sets v ≡ Some s → IsBuilt (map publication_of sets) (Some (compiled (publication_of s)))
unfolding set_at
newest_is [] v is s at = absurd cc
newest_is (t ∷ sets) v is s at =
    let same : t.version ≡ v = cc in
    let test : (t.version == v) ≡ true = eq-eqb _ _ same in
    let first : Some t ≡ Some s = rw test at at in
    let here : t ≡ s = cc in
    ap (λ (u : NumberedSet). Some (compiled (publication_of u))) (sym here)

pub newest_there : (sets : List NumberedSet) (v : ℕ) → newest sets ≡ Some v → set_at sets v ≡ None → ⊥
unfolding set_at
newest_there [] v is at = cc
newest_there (t ∷ sets) v is at =
    let same : t.version ≡ v = cc in
    let test : (t.version == v) ≡ true = eq-eqb _ _ same in
    let first : Some t ≡ None = rw test at at in
    cc

-- all that were there at first
pub all_opened : (sets : List Publication) → opened_at (length sets) sets ≡ sets
all_opened sets = let none : length sets - length sets ≡ 0 = omega arith in ap (λ n. drop n sets) none

-- one more leaves those that were there at first
pub opened_more : (p : Publication) (sets : List Publication) (n : ℕ) → n ≤ length sets → opened_at n (p ∷ sets) ≡ opened_at n sets
opened_more p sets n few = let more : length (p ∷ sets) - n ≡ suc (length sets - n) = omega arith in ap (λ k. drop k (p ∷ sets)) more

-- sets of which all were there at first are a catalogue
pub opened_first : (sets : List NumberedSet) (n : ℕ) → n ≡ length sets → IsFalling sets → Each IsSet sets → IsCatalogue (opened_at n (map publication_of sets))
opened_first sets n all falling each =
    let same : length (map publication_of sets) ≡ n = length-map sets publication_of ∙ sym all in
    let whole : IsCatalogue (opened_at (length (map publication_of sets)) (map publication_of sets)) = subst IsCatalogue (sym (all_opened (map publication_of sets))) (is_catalogue sets falling each) in
    subst (λ (k : ℕ). IsCatalogue (opened_at k (map publication_of sets))) same whole
