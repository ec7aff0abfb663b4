-- What files were told, about the contents that were read for them.
use Rattle.std.specs.Prelude.{◌≡◌, ℕ, List, Some, map}
use Rattle.std.specs.Borrow.{Bor}
use Rattle.std.specs.List.{AllByRecursion as Each}
use Rattle.av_base.specs.declared.cause.Cause.{Cause}
use Rattle.av_base.specs.declared.cause.Cause.TheVariants as why
use Rattle.av_base.specs.declared.verdict.Verdict.TheVariants.{Clean, Infected}
use Rattle.av_files.specs.Volume.{AreRead, FileRead, content_named, volume_of_files}
use Rattle.av_files.specs.declared.opened.Opened.{Opened}
use Rattle.av_files.specs.declared.scanner.Input.{Input}
use Rattle.av_match.specs.Match.{verdict}
use Rattle.av_pend.specs.declared.answer.Answer.{Answer}
use Rattle.av_pend.specs.declared.answer.Answer.TheVariants.{Denied, Granted, Unscanned}
use Rattle.av_sigset.specs.Set.{NumberedSet, patterns_of}
use Rattle.av_store.specs.Store.{Store}

-- ---- what was read

-- the volume is that of these inputs: each was read, and its content was written once
pub record HoldsInputs (inputs : List Input) (volume : Store) : Type 0 where
  pub files : List FileRead
  pub read : AreRead inputs files
  pub volume_is : volume ≡ volume_of_files files

-- a file for each of these names, in their order, with a content that was read for that name
pub record AreContentsOf (has_content : List ℕ → List ℕ → Type 0) (names : List (Bor (List ℕ))) (files : List FileRead) : Type 0 where
  pub named : map (λ f. f.name) files ≡ map (λ n. n.now) names
  pub contents : Each (λ f. has_content f.name f.content) files

-- the volume is that of files of these names: a content was read for each, and written once
pub record HoldsContents (has_content : List ℕ → List ℕ → Type 0) (names : List (Bor (List ℕ))) (volume : Store) : Type 0 where
  pub files : List FileRead
  pub read : AreContentsOf has_content names files
  pub volume_is : volume ≡ volume_of_files files

-- ---- what was told

-- a grant is true: no pattern of the set, of that version, occurs in the content that was read for this name. The generation is 2, since
-- the content was written once
pub record IsCleanFile (files : List FileRead) (set : NumberedSet) (name : List ℕ) (generation version : ℕ) : Type 0 where
  pub content : List ℕ
  pub read : content_named name files ≡ Some content
  pub generation_is : generation ≡ 2
  pub version_is : version ≡ set.version
  pub clean : Clean ≡ verdict (patterns_of set.signatures) content

-- a signature of the set occurs in the content that was read for this name: this is its verdict
pub record IsInfectedFile (files : List FileRead) (set : NumberedSet) (name : List ℕ) : Type 0 where
  pub content : List ℕ
  pub read : content_named name files ≡ Some content
  pub index : ℕ
  pub ends : ℕ
  pub infected : verdict (patterns_of set.signatures) content ≡ Infected index ends

-- a denial that says that a signature occurs is true if one does; of other denials nothing is said
abbrev pub IsTrueDenialOfFile : List FileRead → NumberedSet → List ℕ → Cause → Type 0
IsTrueDenialOfFile files set name why.Infected = IsInfectedFile files set name
IsTrueDenialOfFile files set name c = Unit {0}

-- what a file was told is true of its content; nothing but such a grant lets it through
abbrev pub IsTrueOfFile : List FileRead → NumberedSet → List ℕ → Answer → Type 0
IsTrueOfFile files set name (Granted n least s g version) = IsCleanFile files set name g version
IsTrueOfFile files set name (Unscanned n s g cause) = ⊥
IsTrueOfFile files set name (Denied n c) = IsTrueDenialOfFile files set name c

-- so is what each of these was told
abbrev pub AreTrueOfFiles : List FileRead → NumberedSet → List Opened → Type 0
AreTrueOfFiles files set os = Each (λ o. IsTrueOfFile files set o.name.now o.answer) os
