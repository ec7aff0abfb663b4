-- What the ring comes to, look by look.
use Rattle.std.specs.Prelude.{◌≡◌, ℕ, Bool, true, false, nat_eq, List, [], ◌∷◌, ◌++◌, drop, if◌then◌else◌}
use Rattle.std.specs.List.{list_any}
use Rattle.std.specs.Set.{remove_key}

-- a step of the ring: the turn of who stands in front, who goes to the back; who may not be read leaves; one comes behind the others; one is gone
pub data Step : Type 0 where
  Turns : (n : ℕ) → Step
  Leaves : (n : ℕ) → Step
  Joins : (n : ℕ) → Step
  Goes : (n : ℕ) → Step

abbrev pub Does : Step → List ℕ → List ℕ → Type 0
Does (Turns n) old new = (old ≡ n ∷ drop 1 old) × (new ≡ drop 1 old ++ n ∷ [])
Does (Leaves n) old new = (old ≡ n ∷ drop 1 old) × (new ≡ drop 1 old)
Does (Joins n) old new = new ≡ old ++ n ∷ []
Does (Goes n) old new = new ≡ remove_key (nat_eq n) old

abbrev pub Lead : List Step → List ℕ → List ℕ → Type 0
Lead [] old new = new ≡ old
Lead (s ∷ ss) old new = (next : List ℕ) × Does s old next × Lead ss next new

-- m was at the front in this step, or went
abbrev pub is_front : ℕ → Step → Bool
is_front m (Turns n) = nat_eq m n
is_front m (Leaves n) = nat_eq m n
is_front m (Joins n) = false
is_front m (Goes n) = nat_eq m n

-- m stands in the ring, and n does not stand before it
abbrev pub is_before : ℕ → ℕ → List ℕ → Bool
is_before m n [] = false
is_before m n (x ∷ xs) = if nat_eq m x then true else (if nat_eq n x then false else is_before m n xs)

-- Behind a turn of n, who stood once, and as long as m, who stood there too, was not at the front, n has no other turn.
abbrev pub TurnsAreFair : Type 0
TurnsAreFair =
    (m n : ℕ) (rest new : List ℕ) (steps : List Step) → nat_eq m n ≡ false → list_any (nat_eq m) rest ≡ true → list_any (nat_eq n) rest ≡ false
    → Lead steps (rest ++ n ∷ []) new → list_any (is_front m) steps ≡ false → is_before m n new ≡ true
