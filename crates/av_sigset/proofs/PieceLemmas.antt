use Rattle.std.proofs.Common.{ℕ, ◌≡◌, Bool, true, false, cond, List, [], ◌∷◌, ◌++◌, refl, sym, ap, nat_eq, ◌∙◌, inl, inr, eqb-true}
use Rattle.std.proofs.lemmas.Bool.{and_parts, true≢false}
use Rattle.std.proofs.lemmas.Bool.Decides.{eqb_tells}
use Rattle.std.specs.List.{AllByRecursion, list_all}
use Rattle.av_base.specs.Line.{pieces_of, onto_first}

-- no byte is the separator
abbrev pub IsFree : ℕ → List ℕ → Type 0
IsFree separator w = AllByRecursion (λ b. b ≡ separator → ⊥) w

-- what passes a test that the separator fails has none
pub free_from : (p : ℕ → Bool) (separator : ℕ) (w : List ℕ) → p separator ≡ false → list_all p w ≡ true → IsFree separator w
free_from p separator [] fails all = tt
free_from p separator (b ∷ w) fails all =
    let parts = and_parts (p b) (list_all p w) all in
    ((λ same. true≢false (sym parts.0 ∙ ap p same ∙ fails)), free_from p separator w fails parts.1)

pub free_joined : (separator b : ℕ) (v w : List ℕ) → IsFree separator v → (b ≡ separator → ⊥) → IsFree separator w → IsFree separator (v ++ b ∷ w)
free_joined separator b [] w free other behind = (other, behind)
free_joined separator b (a ∷ v) w free other behind = (free.0, free_joined separator b v w free.1 other behind)

apart : (a b : ℕ) → (a ≡ b → ⊥) → nat_eq a b ≡ false
apart a b h = elim (eqb_tells a b) [ inl p ↦ absurd (h p.1) | inr p ↦ p.0 ]

same : (a : ℕ) → nat_eq a a ≡ true
same a = elim (eqb_tells a a) [ inl p ↦ p.0 | inr p ↦ absurd (p.1 refl) ]

-- the pieces of a word in front of a separator
pub pieces_joined : (separator : ℕ) (w rest : List ℕ) → IsFree separator w → pieces_of separator (w ++ separator ∷ rest) ≡ w ∷ pieces_of separator rest
pieces_joined separator [] rest free = rw (same separator) refl
pieces_joined separator (b ∷ w) rest free = rw (apart b separator free.0) (ap (onto_first b) (pieces_joined separator w rest free.1))

-- a word without separator is one piece
pub pieces_whole : (separator : ℕ) (w : List ℕ) → IsFree separator w → pieces_of separator w ≡ w ∷ []
pieces_whole separator [] free = refl
pieces_whole separator (b ∷ w) free = rw (apart b separator free.0) (ap (onto_first b) (pieces_whole separator w free.1))

-- two pieces and more have a separator between them
pub record IsSplit (separator : ℕ) (bs w : List ℕ) (ps : List (List ℕ)) : Type 0 where
  pub rest : List ℕ
  pub joined : bs ≡ w ++ separator ∷ rest
  pub pieces : pieces_of separator rest ≡ ps

onto_two : (separator b : ℕ) (bs : List ℕ) (ps : List (List ℕ)) (w q : List ℕ) (qs : List (List ℕ)) → onto_first b ps ≡ w ∷ q ∷ qs → ((v : List ℕ) → ps ≡ v ∷ q ∷ qs → IsSplit separator bs v (q ∷ qs))
    → IsSplit separator (b ∷ bs) w (q ∷ qs)
onto_two separator b bs [] w q qs e next = absurd cc
onto_two separator b bs (p ∷ []) w q qs e next = absurd cc
onto_two separator b bs (p ∷ r ∷ ps) w q qs e next =
    let is : b ∷ p ≡ w = cc in
    let others : p ∷ r ∷ ps ≡ p ∷ q ∷ qs = cc in
    let split = next p others in
    record { rest = split.rest; joined = ap (λ v. b ∷ v) split.joined ∙ ap (λ v. v ++ separator ∷ split.rest) is; pieces = split.pieces }

pub pieces_split : (separator : ℕ) (bs w q : List ℕ) (qs : List (List ℕ)) → pieces_of separator bs ≡ w ∷ q ∷ qs → IsSplit separator bs w (q ∷ qs)
pieces_split separator [] w q qs e = absurd cc
pieces_split separator (b ∷ bs) w q qs e =
    (elim (nat_eq b separator) as (λ v. nat_eq b separator ≡ v → cond v ([] ∷ pieces_of separator bs) (onto_first b (pieces_of separator bs)) ≡ w ∷ q ∷ qs → IsSplit separator (b ∷ bs) w (q ∷ qs)) [
      | true ↦ λ is f.
          let empty : w ≡ [] = cc in
          let others : pieces_of separator bs ≡ q ∷ qs = cc in
          record { rest = bs; joined = ap (λ c. c ∷ bs) (eqb-true b separator is) ∙ sym (ap (λ v. v ++ separator ∷ bs) empty); pieces = others }
      | false ↦ λ is f. onto_two separator b bs (pieces_of separator bs) w q qs f (λ v h. pieces_split separator bs v q qs h)
    ]) refl e
