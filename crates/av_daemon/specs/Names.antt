-- The names of signatures that are told.
use Rattle.std.specs.Prelude.{ℕ, ◌==◌, Bool, false, not, if◌then◌else◌, List, Option, None, Some, length, slice_get}
use Rattle.std.specs.Option.{option_map}
use Rattle.av_guard.specs.declared.answered.Answered.{Answered}
use Rattle.av_guard.specs.declared.answered.Answered.TheVariants.{Granted, Infected, Denied, Unscanned}
use Rattle.av_sigset.specs.Set.{NumberedSet}

-- the set of a version is there
abbrev pub has : ℕ → Option NumberedSet → Bool
has version None = false
has version (Some set) = set.version == version

-- how many signatures the set of a version has, where it is there
abbrev pub count_of : ℕ → Option NumberedSet → ℕ
count_of version None = 0
count_of version (Some set) = if set.version == version then length set.signatures else 0

-- the name of the signature at a place of the set of a version, where that set is there
abbrev pub name_at : ℕ → ℕ → Option NumberedSet → Option (List ℕ)
name_at version place None = None
name_at version place (Some set) =
    if set.version == version then option_map (λ s. s.name) (slice_get set.signatures place) else None

-- the name of the signature that an answer names
abbrev pub name_of : Answered → Option NumberedSet → Option (List ℕ)
name_of (Infected version signature end) set = name_at version signature set
name_of (Granted generation version) set = None
name_of (Denied cause) set = None
name_of (Unscanned generation cause) set = None

-- an answer names a signature of a set that isn't there
abbrev pub is_missing : Answered → Option NumberedSet → Bool
is_missing (Infected version signature end) set = not (has version set)
is_missing (Granted generation version) set = false
is_missing (Denied cause) set = false
is_missing (Unscanned generation cause) set = false
