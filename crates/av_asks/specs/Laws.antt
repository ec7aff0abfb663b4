use Rattle.std.specs.Prelude.{ℕ, ◌≡◌, ◌<◌, List, [], ◌∷◌, ◌++◌, length, drop, Option, None, Some, Result, Ok, Err, slice_index}

-- the numbers of a list are bytes
abbrev pub AreBytes : List ℕ → Type 0
AreBytes bytes = (i : ℕ) → slice_index bytes i < 256

-- what is spelled stands at the front of its bytes, whatever follows it
abbrev pub IsReadBack : {A F : Type 0} → (List ℕ → Result (Option (A × ℕ)) F) → (A → List ℕ) → (A → Type 0) → Type 0
IsReadBack {A} front frame Fits = (x : A) (more : List ℕ) → Fits x → front (frame x ++ more) ≡ Ok (Some (x, length (frame x)))

-- what stands at the front of bytes is spelled there
abbrev pub ReadsSpellings : {A F : Type 0} → (List ℕ → Result (Option (A × ℕ)) F) → (A → List ℕ) → (A → Type 0) → Type 0
ReadsSpellings {A} front frame Fits =
    (bytes : List ℕ) (x : A) (size : ℕ) → AreBytes bytes → front bytes ≡ Ok (Some (x, size))
    → Fits x × (bytes ≡ frame x ++ drop size bytes) × (size ≡ length (frame x))

-- nothing more comes of these bytes: their frame isn't whole, or this fault stands there
abbrev pub Ends : {A F : Type 0} → (List ℕ → Result (Option (A × ℕ)) F) → List ℕ → Option F → Type 0
Ends front rest None = front rest ≡ Ok None
Ends front rest (Some f) = front rest ≡ Err f

-- taken off one after another, bytes give these, and end with this rest
abbrev pub Gives : {A F : Type 0} → (List ℕ → Result (Option (A × ℕ)) F) → List ℕ → List A → List ℕ → Option F → Type 0
Gives front bytes [] rest end = (bytes ≡ rest) × Ends front rest end
Gives front bytes (x ∷ xs) rest end = (size : ℕ) × (front bytes ≡ Ok (Some (x, size))) × Gives front (drop size bytes) xs rest end

-- bytes give something
abbrev pub GivesSomething : {A F : Type 0} → (List ℕ → Result (Option (A × ℕ)) F) → Type 0
GivesSomething {A} {F} front = (bytes : List ℕ) → (xs : List A) × (rest : List ℕ) × (end : Option F) × Gives front bytes xs rest end

-- and one thing alone
abbrev pub GivesOneThing : {A F : Type 0} → (List ℕ → Result (Option (A × ℕ)) F) → Type 0
GivesOneThing {A} {F} front =
    (bytes : List ℕ) (xs ys : List A) (rest other : List ℕ) (end stop : Option F)
    → Gives front bytes xs rest end → Gives front bytes ys other stop → (xs ≡ ys) × (rest ≡ other) × (end ≡ stop)

-- a stream that comes in two pieces gives what it gives at once
abbrev pub GoesOn : {A F : Type 0} → (List ℕ → Result (Option (A × ℕ)) F) → Type 0
GoesOn {A} {F} front =
    (first second : List ℕ) (xs ys : List A) (rest last : List ℕ) (end : Option F)
    → Gives front first xs rest None → Gives front (rest ++ second) ys last end
    → Gives front (first ++ second) (xs ++ ys) last end

-- a fault stays where it is, whatever comes behind it
abbrev pub FaultStays : {A F : Type 0} → (List ℕ → Result (Option (A × ℕ)) F) → Type 0
FaultStays {A} {F} front =
    (first second : List ℕ) (xs : List A) (rest : List ℕ) (f : F)
    → Gives front first xs rest (Some f) → Gives front (first ++ second) xs (rest ++ second) (Some f)
