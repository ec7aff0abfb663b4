-- Where what a command writes goes to.
use Rattle.std.specs.Prelude.{ℕ, ◌≡◌, List, Option, None, Some}
use Rattle.std.specs.Io.KnownBytes.{Appends}

-- the text goes to standard output, unless a file was named
abbrev pub GoesOut : {A : Type 0} → Option A → Option (List ℕ) → Option (List ℕ) → List ℕ → Type 0
GoesOut None old new text = Appends old new text
GoesOut (Some path) old new text = new ≡ old
