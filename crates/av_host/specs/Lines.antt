-- Lines of opened files that are true of the contents in a volume.
use Rattle.std.specs.Prelude.{◌≡◌, ℕ, List, [], ◌∷◌, ◌++◌, map, Some}
use Rattle.std.specs.List.{AllByRecursion as Each}
use Rattle.av_base.specs.Among.{Among}
use Rattle.av_base.specs.declared.cause.Cause.{Cause}
use Rattle.av_base.specs.declared.cause.Cause.TheVariants as why
use Rattle.av_base.specs.declared.verdict.Verdict.TheVariants.{Clean, Infected}
use Rattle.av_ends.specs.declared.ticket.Receipt.{Receipt}
use Rattle.av_files.specs.declared.opened.Opened.{Opened}
use Rattle.av_filter.specs.Audit.{answers_given}
use Rattle.av_gate.specs.declared.audit.Audit.{Audit as GateAudit}
use Rattle.av_host.specs.declared.opener.Brought.{Brought}
use Rattle.av_match.specs.Match.{verdict}
use Rattle.av_pend.specs.declared.answer.Answer.{Answer}
use Rattle.av_pend.specs.declared.answer.Answer.TheVariants.{Denied, Granted, Unscanned}
use Rattle.av_sigset.specs.Set.{NumberedSet, patterns_of}
use Rattle.av_store.specs.Rows.{number_named, stream_at}
use Rattle.av_store.specs.Store.{Store}
use Rattle.av_store.specs.declared.stream.Stream.{Stream}

-- a grant of this generation and version: the file of this name has a content of that generation in the volume, and no pattern of the set
-- of that version occurs in it
pub record IsTrueGrant (v : Store) (set : NumberedSet) (name : List ℕ) (stream generation version : ℕ) : Type 0 where
  pub named : number_named name v.streams ≡ Some stream
  pub content : Stream
  pub there : stream_at stream v.streams ≡ Some content
  pub generation_is : generation ≡ content.generation
  pub version_is : version ≡ set.version
  pub clean : Clean ≡ verdict (patterns_of set.signatures) content.bytes

-- the file of this name has a content in the volume in which a signature of the set occurs: this is its verdict
pub record IsTrueFind (v : Store) (set : NumberedSet) (name : List ℕ) : Type 0 where
  pub stream : ℕ
  pub named : number_named name v.streams ≡ Some stream
  pub content : Stream
  pub there : stream_at stream v.streams ≡ Some content
  pub index : ℕ
  pub ends : ℕ
  pub infected : verdict (patterns_of set.signatures) content.bytes ≡ Infected index ends

-- a denial that says that a signature occurs is true where one does; of other denials nothing is said
abbrev pub IsTrueDenial : Store → NumberedSet → List ℕ → Cause → Type 0
IsTrueDenial v set name why.Infected = IsTrueFind v set name
IsTrueDenial v set name c = Unit {0}

-- what a file was told is true; nothing but such a grant lets it through
abbrev pub IsTrueAnswer : Store → NumberedSet → List ℕ → Answer → Type 0
IsTrueAnswer v set name (Granted n least s g version) = IsTrueGrant v set name s g version
IsTrueAnswer v set name (Unscanned n s g cause) = ⊥
IsTrueAnswer v set name (Denied n c) = IsTrueDenial v set name c

abbrev pub IsTrueLine : Store → NumberedSet → Opened → Type 0
IsTrueLine v set o = IsTrueAnswer v set o.name.now o.answer

-- so is each of these
abbrev pub AreTrueLines : Store → NumberedSet → List Opened → Type 0
AreTrueLines v set os = Each (IsTrueLine v set) os

-- a stream has this name in one volume, and in the other the same content and generation
pub record IsSameStream (v w : Store) (name : List ℕ) (stream : ℕ) : Type 0 where
  pub named : number_named name v.streams ≡ Some stream
  pub content : Stream
  pub there : stream_at stream v.streams ≡ Some content
  pub other : Stream
  pub also : stream_at stream w.streams ≡ Some other
  pub generation : other.generation ≡ content.generation
  pub bytes : other.bytes ≡ content.bytes

-- the stream that was granted is the file's, in both volumes
abbrev pub IsOfItsFile : Store → Store → List ℕ → Answer → Type 0
IsOfItsFile v w name (Granted n least s g version) = IsSameStream v w name s
IsOfItsFile v w name _ = Unit {0}

abbrev pub AreOfTheirFiles : Store → Store → List Opened → Type 0
AreOfTheirFiles v w os = Each (λ o. IsOfItsFile v w o.name.now o.answer) os

-- a denial of the file is true
abbrev pub IsDeniedRight : Store → NumberedSet → List ℕ → Answer → Type 0
IsDeniedRight v set name (Denied n c) = IsTrueDenial v set name c
IsDeniedRight v set name _ = Unit {0}

abbrev pub AreDeniedRight : Store → NumberedSet → List Opened → Type 0
AreDeniedRight v set os = Each (λ o. IsDeniedRight v set o.name.now o.answer) os

-- ---- what the openers brought back

abbrev pub receipts_of : List Brought → List Receipt
receipts_of [] = []
receipts_of (b ∷ bs) = b.receipts.items ++ receipts_of bs

abbrev pub answers_of : List Receipt → List Answer
answers_of rs = map (λ r. r.answer) rs

-- each file was told what one of these receipts says
abbrev pub HaveReceipts : List Opened → List Receipt → Type 0
HaveReceipts os rs = Each (λ o. Among o.answer (answers_of rs)) os

-- and what the audit of a gate has
abbrev pub AreGiven : GateAudit → List Opened → Type 0
AreGiven gate os = Each (λ o. Among o.answer (answers_given gate.events.items)) os
