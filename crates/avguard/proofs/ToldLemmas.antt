-- Lines one after the other.
use Rattle.std.proofs.Common.{ℕ, zero, suc, ◌≡◌, ◌<◌, ◌++◌, List, [], ◌∷◌, length, take, drop, get_or, refl, sym, ap, ◌∙◌, append_assoc, append-nil, arith}
use Rattle.std.specs.List.{flat_map}

-- one more
pub lines_next : {A : Type 0} (f : A → List ℕ) (ps : List A) (i : ℕ) (d : A) → i < length ps
    → flat_map f (take (suc i) ps) ≡ flat_map f (take i ps) ++ f (get_or ps i d)
lines_next f [] i d lt = absurd (omega arith)
lines_next f (p ∷ ps) zero d lt = append-nil (f p)
lines_next f (p ∷ ps) (suc i) d lt =
    let lower : i < length ps = omega arith in
    ap (λ t. f p ++ t) (lines_next f ps i d lower) ∙ sym (append_assoc (f p) (flat_map f (take i ps)) (f (get_or ps i d)))

-- the lines before one, its own, and those behind it
pub lines_around : {A : Type 0} (f : A → List ℕ) (ps : List A) (i : ℕ) (d : A) → i < length ps
    → flat_map f (take i ps) ++ (f (get_or ps i d) ++ flat_map f (drop (suc i) ps)) ≡ flat_map f ps
lines_around f [] i d lt = absurd (omega arith)
lines_around f (p ∷ ps) zero d lt = refl
lines_around f (p ∷ ps) (suc i) d lt =
    let lower : i < length ps = omega arith in
    append_assoc (f p) (flat_map f (take i ps)) (f (get_or ps i d) ++ flat_map f (drop (suc i) ps)) ∙ ap (λ t. f p ++ t) (lines_around f ps i d lower)
