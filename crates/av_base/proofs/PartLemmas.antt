use Rattle.std.proofs.Common.{ℕ, zero, suc, ◌≡◌, ◌<◌, ◌++◌, List, [], ◌∷◌, length, map, take, drop, get_or, refl, sym, ap, ◌∙◌, append_assoc, append-nil, arith}
use Rattle.hex.specs.Hex.{encode_lower, encode_with}
use Rattle.av_base.specs.Part.{digits_of, spelt}

-- one part more
pub spelt_next : {A : Type 0} (f : A → List ℕ) (ps : List A) (i : ℕ) (d : A) → i < length ps → spelt (map f (take (suc i) ps)) ≡ spelt (map f (take i ps)) ++ f (get_or ps i d)
spelt_next f [] i d lt = absurd (omega arith)
spelt_next f (p ∷ ps) zero d lt = append-nil (f p)
spelt_next f (p ∷ ps) (suc i) d lt =
    let lower : i < length ps = omega arith in
    ap (λ t. f p ++ t) (spelt_next f ps i d lower) ∙ sym (append_assoc (f p) (spelt (map f (take i ps))) (f (get_or ps i d)))

-- the parts before one, that one, and those behind it
pub spelt_around : {A : Type 0} (f : A → List ℕ) (ps : List A) (i : ℕ) (d : A) → i < length ps
    → spelt (map f (take i ps)) ++ (f (get_or ps i d) ++ spelt (map f (drop (suc i) ps))) ≡ spelt (map f ps)
spelt_around f [] i d lt = absurd (omega arith)
spelt_around f (p ∷ ps) zero d lt = refl
spelt_around f (p ∷ ps) (suc i) d lt =
    let lower : i < length ps = omega arith in
    append_assoc (f p) (spelt (map f (take i ps))) (f (get_or ps i d) ++ spelt (map f (drop (suc i) ps))) ∙ ap (λ t. f p ++ t) (spelt_around f ps i d lower)

-- the digits of bytes are those of each
pub spelt_digits : (bytes : List ℕ) → spelt (map digits_of bytes) ≡ encode_lower bytes
unfolding encode_with
spelt_digits [] = refl
spelt_digits (b ∷ bs) = ap (λ t. digits_of b ++ t) (spelt_digits bs)
