-- A stream that is heard byte by byte, whatever is kept between bytes.
use Rattle.std.specs.Prelude.{ℕ, ◌≡◌, List, [], ◌∷◌, ◌++◌}

-- what was heard before what is heard next
abbrev pub after : {S E : Type 0} → List E → S × List E → S × List E
after first heard = (heard.0, first ++ heard.1)

-- what bytes do one after another, where `step` says what one does
abbrev pub hears : {S E : Type 0} → (ℕ → S → S × List E) → List ℕ → S → S × List E
hears step [] s = (s, [])
hears step (b ∷ bs) s = after (step b s).1 (hears step bs (step b s).0)

-- two pieces do what both together do
abbrev pub IsCutAnywhere : {S E : Type 0} → (List ℕ → S → S × List E) → Type 0
IsCutAnywhere {S} heard =
    (first second : List ℕ) (s : S) → heard (first ++ second) s ≡ after (heard first s).1 (heard second (heard first s).0)
