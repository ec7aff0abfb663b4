-- Which clients want to be told of a newer version.
use Rattle.std.specs.Prelude.{ℕ, ◌≡◌, ◌≤◌, ◌<◌, ◌==◌, if◌then◌else◌, List, Option, None, Some}
use Rattle.av_turns.specs.Waits.{Ends, Sets, since_of}

-- for each client the version that it named
abbrev pub Watching : Type 0
Watching = List (ℕ × ℕ)

-- the version that a client named
abbrev pub named_by : Watching → ℕ → Option ℕ
named_by watching client = since_of watching client

-- there can be a newer version than each that is named
abbrev pub CanBeNewer : Watching → Type 0
CanBeNewer watching = (client version : ℕ) → named_by watching client ≡ Some version → version < 18446744073709551615

-- a client has named this version, or none where no version is newer; the others are as before
abbrev pub IsWatched : Watching → Watching → ℕ → ℕ → Type 0
IsWatched old new client version = Sets old new client (if version == 18446744073709551615 then None else Some version)

-- a client that named an older version than the floor is forgotten; or none did
abbrev pub IsNext : Watching → Watching → ℕ → Option ℕ → Type 0
IsNext old new floor (Some client) = (version : ℕ) × (named_by old client ≡ Some version) × (version < floor) × Ends old new client
IsNext old new floor None = (new ≡ old) × ((client version : ℕ) → named_by old client ≡ Some version → floor ≤ version)
