use Rattle.std.proofs.Common.{ℕ, ◌≡◌, true, false, nat_eq, List, [], ◌∷◌, ◌++◌, refl, ap, eq-eqb}
use Rattle.av_base.specs.Line.{onto_first, pieces_of}

-- no byte of a text is the separator
abbrev pub Lacks : ℕ → List ℕ → Type 0
Lacks s [] = Unit {0}
Lacks s (b ∷ bs) = (nat_eq b s ≡ false) × Lacks s bs

-- a text without the separator is one piece
pub one_piece : (s : ℕ) (a : List ℕ) → Lacks s a → pieces_of s a ≡ a ∷ []
one_piece s [] h = refl
one_piece s (b ∷ bs) h = rw h.0 (ap (onto_first b) (one_piece s bs h.1))

-- and it is the first piece in front of one
pub first_piece : (s : ℕ) (a rest : List ℕ) → Lacks s a → pieces_of s (a ++ (s ∷ rest)) ≡ a ∷ pieces_of s rest
first_piece s [] rest h = let here : nat_eq s s ≡ true = eq-eqb s s refl in rw here refl
first_piece s (b ∷ bs) rest h = rw h.0 (ap (onto_first b) (first_piece s bs rest h.1))
