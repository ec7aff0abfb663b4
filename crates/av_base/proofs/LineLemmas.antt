use Rattle.std.proofs.Common.{ℕ, zero, suc, ◌≡◌, ◌<◌, List, [], ◌∷◌, length, take, drop, get_or, nat_eq, cond, false, true, refl, ap, arith, eq-eqb, inl, inr}
use Rattle.std.proofs.lemmas.Bool.Decides.{eqb_tells}
use Rattle.av_base.specs.Line.{lines_of, pieces_of, onto_first}

-- no byte below i is b
abbrev pub NoneBelow : ℕ → List ℕ → ℕ → Type 0
NoneBelow b bs i = (k : ℕ) → k < i → get_or bs k 0 ≡ b → ⊥

apart : (a b : ℕ) → (a ≡ b → ⊥) → nat_eq a b ≡ false
apart a b h = elim (eqb_tells a b) [ inl p ↦ absurd (h p.1) | inr p ↦ p.0 ]

-- the first line ends at i
pub lines_of-ends : (bs : List ℕ) (i : ℕ) → i < length bs → get_or bs i 0 ≡ 10 → NoneBelow 10 bs i → lines_of bs ≡ take i bs ∷ lines_of (drop (suc i) bs)
lines_of-ends [] i lt is none = absurd (omega arith)
lines_of-ends (b ∷ bs) zero lt is none = let here : nat_eq b 10 ≡ true = eq-eqb b 10 is in rw here refl
lines_of-ends (b ∷ bs) (suc i) lt is none =
    let other : nat_eq b 10 ≡ false = apart b 10 (none 0 (omega arith)) in
    let lower : i < length bs = omega arith in
    rw other (ap (onto_first b) (lines_of-ends bs i lower is (λ k h. none (suc k) (omega arith))))

-- no line ends: it is all one
pub lines_of-whole : (bs : List ℕ) → 0 < length bs → NoneBelow 10 bs (length bs) → lines_of bs ≡ bs ∷ []
lines_of-whole [] lt none = absurd (omega arith)
lines_of-whole (b ∷ []) lt none = let other : nat_eq b 10 ≡ false = apart b 10 (none 0 (omega arith)) in rw other refl
lines_of-whole (b ∷ c ∷ bs) lt none =
    let other : nat_eq b 10 ≡ false = apart b 10 (none 0 (omega arith)) in
    rw other (ap (onto_first b) (lines_of-whole (c ∷ bs) (omega arith) (λ k h. none (suc k) (omega arith))))

-- the first piece ends at i
pub pieces_of-ends : (s : ℕ) (bs : List ℕ) (i : ℕ) → i < length bs → get_or bs i 0 ≡ s → NoneBelow s bs i → pieces_of s bs ≡ take i bs ∷ pieces_of s (drop (suc i) bs)
pieces_of-ends s [] i lt is none = absurd (omega arith)
pieces_of-ends s (b ∷ bs) zero lt is none = let here : nat_eq b s ≡ true = eq-eqb b s is in rw here refl
pieces_of-ends s (b ∷ bs) (suc i) lt is none =
    let other : nat_eq b s ≡ false = apart b s (none 0 (omega arith)) in
    let lower : i < length bs = omega arith in
    rw other (ap (onto_first b) (pieces_of-ends s bs i lower is (λ k h. none (suc k) (omega arith))))

-- there is no separator: it is all one
pub pieces_of-whole : (s : ℕ) (bs : List ℕ) → NoneBelow s bs (length bs) → pieces_of s bs ≡ bs ∷ []
pieces_of-whole s [] none = refl
pieces_of-whole s (b ∷ bs) none =
    let other : nat_eq b s ≡ false = apart b s (none 0 (omega arith)) in
    rw other (ap (onto_first b) (pieces_of-whole s bs (λ k h. none (suc k) (omega arith))))

-- onto any list of pieces there is a first one
onto_some : (b : ℕ) (ps : List (List ℕ)) → (first : List ℕ) × (rest : List (List ℕ)) × (onto_first b ps ≡ first ∷ rest)
onto_some b [] = (b ∷ [], [], refl)
onto_some b (p ∷ ps) = (b ∷ p, ps, refl)

-- there is a first piece
pub pieces_some : (s : ℕ) (bs : List ℕ) → (first : List ℕ) × (rest : List (List ℕ)) × (pieces_of s bs ≡ first ∷ rest)
pieces_some s [] = ([], [], refl)
pieces_some s (b ∷ bs) =
    elim (nat_eq b s) as (λ v. (first : List ℕ) × (rest : List (List ℕ)) × (cond v ([] ∷ pieces_of s bs) (onto_first b (pieces_of s bs)) ≡ first ∷ rest)) [
      | true ↦ ([], pieces_of s bs, refl)
      | false ↦ onto_some b (pieces_of s bs)
    ]
