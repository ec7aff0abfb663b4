-- What a merge of signature files writes.
use Rattle.std.specs.Prelude.{ℕ, ◌≡◌, ◌≤◌, ◌<◌, ◌⊎◌, List, length, Option, Ok, unwrap_or}
use Rattle.std.specs.List.{AllByRecursion}
use Rattle.av_base.specs.Device.{AppendsPrefix}
use Rattle.av_merge.specs.Merge.{IsMergeOf, Merged}
use Rattle.av_program.specs.Sets.{IsTrustFor}
use Rattle.av_sets.specs.Sets.{IsTrusted}
use Rattle.av_sigset.specs.File.{MayStand}
use Rattle.av_sigset.specs.Judge.{set_of}
use Rattle.av_sigset.specs.Set.{NumberedSet}
use Rattle.av_sigset.specs.Spelling.{spelling}
use Rattle.av_status.specs.declared.status.Status.{Status}
use Rattle.av_status.specs.declared.status.Status.TheVariants.{Device}
use Rattle.av_trust.specs.declared.trust.Trust.{Trust}
use Rattle.avtool_words.specs.declared.request.Merge.{Merge}

-- sets of files that this trust takes: each has signatures, which may be in one file
abbrev pub AreOfFiles : Trust → List NumberedSet → Type 0
AreOfFiles trust sets = AllByRecursion (λ s. IsTrusted trust s × (0 < length s.signatures) × MayStand s.signatures) sets

-- the merge of so many sets of such files
abbrev pub IsMergeOfFiles : Trust → ℕ → Merged → Type 0
IsMergeOfFiles trust count m = (sets : List NumberedSet) × (length sets ≡ count) × AreOfFiles trust sets × IsMergeOf sets m

-- the merge of as many sets as were named, each of a file that was signed if a key was asked for, or that was not if none was
pub record IsMergeAsked (asked : Merge) (m : Merged) : Type 0 where
  pub trust : Trust
  pub trust_for : IsTrustFor asked.trust trust
  pub of_files : IsMergeOfFiles trust (length asked.files.items) m

-- the merge under the version that was asked for, or the greatest of its sets
abbrev pub set_for : Merge → Merged → NumberedSet
set_for asked m = record { version = unwrap_or asked.version m.version; signatures = m.signatures }

-- the text of the merge that is asked for
pub record IsMergeFor (asked : Merge) (text : List ℕ) : Type 0 where
  pub merged : Merged
  pub of_files : IsMergeAsked asked merged
  pub spelt : text ≡ spelling (set_for asked merged)

-- it is read as that merge, if its version is one of a file
pub record IsMergeFile (asked : Merge) (text : List ℕ) : Type 0 where
  pub merge : IsMergeFor asked text
  pub reads_back : 1 ≤ unwrap_or asked.version merge.merged.version → set_of text ≡ Ok (set_for asked merge.merged)

-- a fault leaves standard output as it was, or with a front of the text if a write failed
abbrev pub Leaves : Merge → Status → Option (List ℕ) → Option (List ℕ) → Type 0
Leaves asked status old new =
    (new ≡ old) ⊎ ((status ≡ Device) × ((text : List ℕ) × IsMergeFor asked text × AppendsPrefix old new text))
