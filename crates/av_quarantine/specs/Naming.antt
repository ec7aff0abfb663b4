-- The names that a file can get in a folder.
use Rattle.std.specs.Prelude.{ℕ, ◌≡◌, ◌≤◌, ◌==◌, ⊤, List, ◌++◌, Some, codes, decimal, if◌then◌else◌}
use Rattle.std.specs.Path.{path_file_name, path_join}
use Rattle.av_quarantine.specs.declared.steps.TheConstants.{LAST}
use Rattle.av_quarantine.specs.declared.steps.Outcome.{Outcome}
use Rattle.av_quarantine.specs.declared.steps.Outcome.TheVariants.{Done, Taken, Elsewhere, Failed}
use Rattle.av_quarantine.specs.declared.steps.Step.{Step}
use Rattle.av_quarantine.specs.declared.steps.Step.TheVariants.{Link, Compare, Remove, Undo, Moved, Stopped}

-- a name with its number behind it: none for 0
abbrev pub numbered : List ℕ → ℕ → List ℕ
numbered name n = if n == 0 then name else name ++ codes "." ++ decimal n

-- the path of a name in a folder
abbrev pub place_of : List ℕ → List ℕ → ℕ → List ℕ
place_of folder name n = path_join folder (numbered name n)

-- the path that a file got in a folder: under the last part of its old path, with a number up to the last one
pub record IsMovedTo (folder old new : List ℕ) : Type 0 where
  pub name : List ℕ
  pub last : path_file_name old ≡ Some name
  pub number : ℕ
  pub few : number ≤ LAST
  pub place : new ≡ place_of folder name number

-- the new path is the one of this number
abbrev pub IsNamed : List ℕ → List ℕ → ℕ → List ℕ → Type 0
IsNamed folder name n new = (n ≤ LAST) × (new ≡ place_of folder name n)

-- the new path is the one of the step's number, once a name was given
abbrev pub IsNamedAt : List ℕ → List ℕ → Step → List ℕ → Type 0
IsNamedAt folder name (Link n) new = n ≤ LAST
IsNamedAt folder name (Compare n) new = IsNamed folder name n new
IsNamedAt folder name (Remove n) new = IsNamed folder name n new
IsNamedAt folder name (Undo n f) new = IsNamed folder name n new
IsNamedAt folder name (Moved n) new = IsNamed folder name n new
IsNamedAt folder name (Stopped f) new = ⊤

-- what an outcome of the step that gives a name says of the new path
abbrev pub IsLinked : List ℕ → List ℕ → ℕ → Outcome → List ℕ → Type 0
IsLinked folder name n Done new = new ≡ place_of folder name n
IsLinked folder name n Taken new = ⊤
IsLinked folder name n Elsewhere new = ⊤
IsLinked folder name n Failed new = ⊤

-- the new path before and after a step: only the one that gives a name changes it
abbrev pub IsTried : List ℕ → List ℕ → Step → Outcome → List ℕ → List ℕ → Type 0
IsTried folder name (Link n) o old new = IsLinked folder name n o new
IsTried folder name (Compare n) o old new = new ≡ old
IsTried folder name (Remove n) o old new = new ≡ old
IsTried folder name (Undo n f) o old new = new ≡ old
IsTried folder name (Moved n) o old new = new ≡ old
IsTried folder name (Stopped f) o old new = new ≡ old
