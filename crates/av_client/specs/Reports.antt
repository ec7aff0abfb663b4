-- Where a guard says how it is, and where its service comes a second time.
use Rattle.std.specs.Prelude.{ℕ, ◌≡◌, ◌+◌, ◌<◌, ◌≤◌, ◌++◌, List, length, codes, Option, None, Some}

-- the path of a socket with this behind it, where a socket can have it
abbrev pub IsPathBeside : List ℕ → List ℕ → Option (List ℕ) → Type 0
IsPathBeside path behind None = 107 < length path + length behind
IsPathBeside path behind (Some made) = (length path + length behind ≤ 107) × (made ≡ path ++ behind)

-- the path of the socket for opens with `.status` behind it
abbrev pub IsStatusPath : List ℕ → Option (List ℕ) → Type 0
IsStatusPath opens path = IsPathBeside opens (codes ".status") path
