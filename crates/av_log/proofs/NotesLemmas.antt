use Rattle.std.proofs.Common.{ℕ, zero, suc, ◌≡◌, ◌+◌, ◌++◌, ◌==◌, false, List, [], ◌∷◌, drop, take, refl, ap, sym, ◌∙◌, append_assoc, Some, slice_get, add-one}
use Rattle.av_log.specs.Notes.{note_of, others_of}
use Rattle.av_log.specs.declared.notes.AskNote.{AskNote}

-- what is left after a list's front is one element and others: then the front with it, and the others
drop_suc : {A : Type 0} (k : ℕ) (xs : List A) (x : A) (ys : List A) → drop k xs ≡ x ∷ ys → drop (suc k) xs ≡ ys
drop_suc zero (z ∷ xs) x ys e = cc
drop_suc zero [] x ys e = cc
drop_suc (suc k) [] x ys e = cc
drop_suc (suc k) (z ∷ xs) x ys e = drop_suc k xs x ys e

take_suc : {A : Type 0} (k : ℕ) (xs : List A) (x : A) (ys : List A) → drop k xs ≡ x ∷ ys → take (suc k) xs ≡ take k xs ++ x ∷ []
take_suc zero (z ∷ xs) x ys e = cc
take_suc zero [] x ys e = cc
take_suc (suc k) [] x ys e = cc
take_suc (suc k) (z ∷ xs) x ys e = ap (λ t. z ∷ t) (take_suc k xs x ys e)

pub drop_next : {A : Type 0} (k : ℕ) (xs : List A) (x : A) (ys : List A) → drop k xs ≡ x ∷ ys → drop (k + 1) xs ≡ ys
drop_next k xs x ys e = rw add-one (drop_suc k xs x ys e)

pub take_next : {A : Type 0} (k : ℕ) (xs : List A) (x : A) (ys : List A) → drop k xs ≡ x ∷ ys → take (k + 1) xs ≡ take k xs ++ x ∷ []
take_next k xs x ys e = rw add-one (take_suc k xs x ys e)

pub get_next : {A : Type 0} (k : ℕ) (xs : List A) (x : A) (ys : List A) → drop k xs ≡ x ∷ ys → slice_get xs k ≡ Some x
get_next zero (z ∷ xs) x ys e = cc
get_next zero [] x ys e = cc
get_next (suc k) [] x ys e = cc
get_next (suc k) (z ∷ xs) x ys e = get_next k xs x ys e

-- a note of another tag is passed over
pub one_more : (tag k : ℕ) (all rest : List AskNote) (n : AskNote) (below : List AskNote) → (n.tag == tag) ≡ false → rest ≡ n ∷ below → drop k all ≡ rest
    → note_of tag rest ≡ note_of tag all → take k all ++ others_of tag rest ≡ others_of tag all
    → (note_of tag below ≡ note_of tag all) × (take (k + 1) all ++ others_of tag below ≡ others_of tag all)
one_more tag k all rest n below other split left note others =
    let found : note_of tag rest ≡ note_of tag below = rw (split, other) refl in
    let past : others_of tag rest ≡ n ∷ others_of tag below = rw (split, other) refl in (
      sym found ∙ note,
      rw (take_next k all n below (left ∙ split))
          (append_assoc (take k all) (n ∷ []) (others_of tag below) ∙ ap (λ t. take k all ++ t) (sym past) ∙ others),
    )
