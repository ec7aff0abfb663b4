-- A work with the automaton of its version.
use Rattle.std.specs.Prelude.{◌≡◌, List, [], ◌∷◌, Option, None, Some}
use Rattle.av_match.specs.Scanning.{AreSolid, Compiled}
use Rattle.av_service.specs.Work.{WorkState}
use Rattle.av_sigset.specs.Publication.{Publication, published_as}

-- a lent work, with the compiled patterns of its version
pub record LentState : Type 0 where
  pub work : WorkState
  pub automaton : Compiled

-- The automaton is of the work's version, and each of its patterns has 1 to 64 bytes.
pub record FitsItsWork (l : LentState) : Type 0 where
  pub version : l.automaton.version ≡ l.work.version
  pub solid : AreSolid l.automaton.patterns

-- of these publications, the works that were given out, and under what each was published
abbrev pub AreLent : List Publication → List WorkState → Option LentState → Type 0
AreLent sets works None = works ≡ []
AreLent sets works (Some l) = (works ≡ l.work ∷ []) × (published_as sets l.work.version ≡ Some l.automaton.patterns)

-- an automaton of its version is there for a work, and the work with it
abbrev pub IsMet : Option WorkState → Option Compiled → Type 0
IsMet None a = Unit {0}
IsMet (Some k) None = ⊥
IsMet (Some k) (Some a) = a.version ≡ k.version

-- a work with an automaton, where there are both
abbrev pub lent_with : Option WorkState → Option Compiled → Option LentState
lent_with None a = None
lent_with (Some k) None = None
lent_with (Some k) (Some a) = Some (record { work = k; automaton = a })
