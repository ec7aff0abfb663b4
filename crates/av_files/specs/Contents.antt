-- How much a file adds to its group.
use Rattle.std.specs.Prelude.{ℕ, max, List, Option, None, Some, length}

-- as how many bytes a file of this content counts
abbrev pub counted : Option (List ℕ) → ℕ
counted None = 4096
counted (Some content) = max (length content) 4096
