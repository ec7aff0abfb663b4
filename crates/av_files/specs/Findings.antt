-- What is found in a content under several sets.
use Rattle.std.specs.Prelude.{ℕ, ◌≡◌, ◌+◌, ◌≤◌, ◌||◌, Bool, false, ⊤, List, [], ◌∷◌, Option, IfSome, length}
use Rattle.av_match.specs.Match.{verdict}
use Rattle.av_match.specs.Scanning.{Compiled, IsScan, ScanState}
use Rattle.av_sigset.specs.Set.{NumberedSet, patterns_of}
use Rattle.av_files.specs.Scan.{is_infected}
use Rattle.av_files.specs.declared.finding.Finding.{Finding}

-- a set, and the name of its file
pub record NamedSet : Type 0 where
  pub name : List ℕ
  pub set : NumberedSet

-- the finding of a content under each set, with the set's place, from this place on
abbrev pub findings_from : ℕ → List NamedSet → List ℕ → List Finding
findings_from place [] content = []
findings_from place (s ∷ sets) content =
    record { set = place; verdict = verdict (patterns_of s.set.signatures) content } ∷ findings_from (place + 1) sets content

-- the findings of a content under sets: for each set, in order, the verdict of the content, with the set's place
abbrev pub findings_of : List NamedSet → List ℕ → List Finding
findings_of sets content = findings_from 0 sets content

-- a signature was found under some set
abbrev pub is_found : List Finding → Bool
is_found [] = false
is_found (f ∷ fs) = is_infected f.verdict || is_found fs

-- a set as its automaton has it
abbrev pub compiled_of : NumberedSet → Compiled
compiled_of set = record { version = set.version; patterns = patterns_of set.signatures }

-- each of these is the scan of the bytes c under the set at its place
abbrev pub AreScans : List NamedSet → ℕ → List ℕ → List ScanState → Type 0
AreScans [] bytes c [] = ⊤
AreScans [] bytes c (x ∷ xs) = ⊥
AreScans (s ∷ sets) bytes c [] = ⊥
AreScans (s ∷ sets) bytes c (x ∷ xs) = IsScan (compiled_of s.set) bytes c x × AreScans sets bytes c xs

-- a content is all bytes that a reader had left, as far as they are known
abbrev pub IsWhole : Option (List ℕ) → List ℕ → Type 0
IsWhole left content = IfSome left (λ all. content ≡ all)

-- the scans of a content that a reader gave until it was at its end, of so many bytes at most
pub record AreFed (left : Option (List ℕ)) (sets : List NamedSet) (most : ℕ) (scans : List ScanState) : Type 0 where
  pub content : List ℕ
  pub whole : IsWhole left content
  pub short : length content ≤ most
  pub fed : AreScans sets most content scans

-- what is found in a content that a reader gave until it was at its end, of so many bytes at most
pub record AreFoundIn (left : Option (List ℕ)) (sets : List NamedSet) (most : ℕ) (fs : List Finding) : Type 0 where
  pub content : List ℕ
  pub whole : IsWhole left content
  pub short : length content ≤ most
  pub found : fs ≡ findings_of sets content
