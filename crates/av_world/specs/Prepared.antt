-- The automaton that a world keeps.
use Rattle.std.specs.Prelude.{◌≡◌, List, Option, None, Some}
use Rattle.av_sigset.specs.Catalogue.{set_at}
use Rattle.av_sigset.specs.Set.{NumberedSet, patterns_of}
use Rattle.av_match.specs.Scanning.{Compiled}

-- it is of a set
abbrev pub Compiles : Option NumberedSet → Compiled → Type 0
Compiles None a = ⊥
Compiles (Some s) a = a.patterns ≡ patterns_of s.signatures

-- it was built of a set that was published
abbrev pub IsPrepared : List NumberedSet → Option Compiled → Type 0
IsPrepared sets None = Unit {0}
IsPrepared sets (Some a) = Compiles (set_at sets a.version) a

-- one of this set is kept
abbrev pub IsPreparedFor : Option NumberedSet → Option Compiled → Type 0
IsPreparedFor set None = ⊥
IsPreparedFor set (Some a) = Compiles set a
