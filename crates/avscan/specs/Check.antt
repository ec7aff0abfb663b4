-- Signature files that are good, and their lines.
use Rattle.std.specs.Prelude.{ℕ, ◌<◌, List, [], ◌∷◌, Option, codes, decimal, length, map}
use Rattle.std.specs.Io.KnownBytes.{Appends, Keeps}
use Rattle.av_base.specs.Part.{spelt}
use Rattle.av_files.specs.Quoted.{quoted}
use Rattle.av_program.specs.Sets.{IsTrustFor}
use Rattle.av_sets.specs.Sets.{SpellsBy}
use Rattle.av_sigset.specs.Set.{NumberedSet}
use Rattle.av_trust.specs.declared.trust.Trust.{Trust}
use Rattle.avscan_words.specs.declared.request.Check.{Check}

-- the version of a set and how many signatures it has, behind a name as a line has it
abbrev pub line_of : List ℕ → NumberedSet → List ℕ
line_of name set =
    spelt (name ∷ codes ": version " ∷ decimal set.version ∷ codes ", " ∷ decimal (length set.signatures) ∷ codes " signatures\n" ∷ [])

-- the line of a set in the file of this name
abbrev pub checked_line : List ℕ → NumberedSet → List ℕ
checked_line name set = line_of (quoted name) set

-- a file is taken and spells a set, which has signatures, and its line was written
pub record IsChecked (trust : Trust) (name : List ℕ) (content old new : Option (List ℕ)) : Type 0 where
  pub set : NumberedSet
  pub spelt_by : SpellsBy trust content set
  pub some : 0 < length set.signatures
  pub line : Appends old new (checked_line name set)

-- what was read of a file of this name is so
pub record IsGood (trust : Trust) (name : List ℕ) (old new : Option (List ℕ)) : Type 0 where
  pub content : Option (List ℕ)
  pub checked : IsChecked trust name content old new

-- the files of these names are so, in their order
abbrev pub AreGood : Trust → List (List ℕ) → Option (List ℕ) → Option (List ℕ) → Type 0
AreGood trust [] old new = Keeps old new
AreGood trust (name ∷ names) old new = (mid : Option (List ℕ)) × IsGood trust name old mid × AreGood trust names mid new

-- all files that the words name are so, by the trust that they ask for
pub record AreAllGood (asked : Check) (old new : Option (List ℕ)) : Type 0 where
  pub trust : Trust
  pub trust_for : IsTrustFor asked.trust trust
  pub good : AreGood trust (map (λ n. n.now) asked.sets.items) old new
