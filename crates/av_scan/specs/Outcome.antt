-- Files that were scanned one after the other, and what is printed of them.
use Rattle.std.specs.Prelude.{ℕ, ◌≡◌, ◌==◌, ◌++◌, ⊤, Bool, true, false, List, [], ◌∷◌, Option, None, Some, Result, Ok, Err, IfOk, if◌then◌else◌, codes, length, map, nat_lt, slice_get}
use Rattle.std.specs.Io.KnownBytes.{Appends}
use Rattle.json.specs.Token.{Token}
use Rattle.av_base.specs.Device.{AppendsPrefix}
use Rattle.av_base.specs.Part.{spelt}
use Rattle.av_base.specs.declared.verdict.Verdict.{Verdict}
use Rattle.av_files.specs.Findings.{NamedSet, is_found}
use Rattle.av_files.specs.Quoted.{quoted}
use Rattle.av_files.specs.Scan.{is_infected, name_found, verdict_text}
use Rattle.av_files.specs.Under.{set_end, tokens_under}
use Rattle.av_files.specs.declared.finding.Finding.{Finding}
use Rattle.av_json.specs.File.{file_tokens, named_object}
use Rattle.av_json.specs.Line.{object_line}
use Rattle.av_json.specs.Member.{number_tokens, object_tokens, text_tokens}
use Rattle.av_scan.specs.Moving.{IsEndOfMove, is_moved, with_fault}
use Rattle.av_scan.specs.Told.{status_of, words_of}
use Rattle.av_scan.specs.declared.told.Unscanned.{Unscanned}
use Rattle.av_sigset.specs.Set.{NumberedSet}
use Rattle.av_status.specs.Status.{IsFault, graver_status}
use Rattle.av_status.specs.Tally.{concluded, has_line, with_missed, with_scanned}
use Rattle.av_status.specs.declared.status.Status.{Status}
use Rattle.av_status.specs.declared.status.Status.TheVariants.{Refused}
use Rattle.av_status.specs.declared.tally.Form.{Form}
use Rattle.av_status.specs.declared.tally.Form.TheVariants.{Lines, Json, ZeroEnded}
use Rattle.av_status.specs.declared.tally.Shown.{Shown}
use Rattle.av_status.specs.declared.tally.Shown.TheVariants as shown
use Rattle.av_status.specs.declared.tally.Tally.{Tally}
use Rattle.av_status.specs.declared.tally.Wishes.{Wishes}

-- What became of a file: what is found in it, or why that is not known; and how its move out of the way ended.
pub record Outcome : Type 0 where
  pub name : List ℕ
  pub judged : Result (List Finding) Unscanned
  pub fault : Status

-- the name of a set, where lines have it: there are several sets
abbrev pub told_name : List NamedSet → NamedSet → Option (List ℕ)
told_name sets s = if nat_lt 1 (length sets) then Some s.name else None

-- the line of a file of this name and verdict, in this form, with the name of the set where that is wanted
abbrev pub text_of : Form → Option (List ℕ) → NumberedSet → List ℕ → Verdict → List ℕ
text_of Lines None set name v = verdict_text set (quoted name) v (codes "\n")
text_of Json None set name v = object_line (file_tokens name set.version v (name_found set v))
text_of ZeroEnded None set name v = verdict_text set name v (0 ∷ [])
text_of Lines (Some set_name) set name v = verdict_text set (quoted name) v (set_end (quoted set_name) (codes "\n"))
text_of Json (Some set_name) set name v = object_line (tokens_under set_name set name v)
text_of ZeroEnded (Some set_name) set name v = verdict_text set name v (set_end set_name (0 ∷ []))

-- the same under a set of the sets, if it is one of them
abbrev pub text_under : Form → List NamedSet → Option NamedSet → List ℕ → Verdict → List ℕ
text_under form sets None name v = []
text_under form sets (Some s) name v = text_of form (told_name sets s) s.set name v

-- the line of a finding, where it has one: under the set at its place
abbrev pub finding_text : Wishes → List NamedSet → List ℕ → Finding → List ℕ
finding_text wishes sets name f =
    if has_line wishes.shown (is_infected f.verdict) then text_under wishes.form sets (slice_get sets f.set) name f.verdict else []

-- the lines of findings, in their order
abbrev pub findings_text : Wishes → List NamedSet → List ℕ → List Finding → List ℕ
findings_text wishes sets name [] = []
findings_text wishes sets name (f ∷ fs) = finding_text wishes sets name f ++ findings_text wishes sets name fs

-- names alone are written: of infected files, each ended by a zero byte
abbrev pub are_names : Shown → Form → Bool
are_names shown.Infected ZeroEnded = true
are_names shown form = false

-- the name of a file in which something is found, and its end
abbrev pub name_text : List ℕ → List Finding → List ℕ
name_text name fs = if is_found fs then spelt (name ∷ (0 ∷ []) ∷ []) else []

-- what is written of a file that was scanned
abbrev pub file_text : Wishes → List NamedSet → List ℕ → List Finding → List ℕ
file_text wishes sets name fs = if are_names wishes.shown wishes.form then name_text name fs else findings_text wishes sets name fs

-- the object of a file that was not scanned
abbrev pub unscanned_tokens : List ℕ → Unscanned → List Token
unscanned_tokens name u = named_object name (text_tokens (codes "fault") (words_of u) ∷ [])

-- what is written of it: its object alone
abbrev pub unscanned_text : Form → List ℕ → Unscanned → List ℕ
unscanned_text Json name u = object_line (unscanned_tokens name u)
unscanned_text form name u = []

-- what is written of a file
abbrev pub shown_text : Wishes → List NamedSet → List ℕ → Result (List Finding) Unscanned → List ℕ
shown_text wishes sets name (Ok fs) = file_text wishes sets name fs
shown_text wishes sets name (Err u) = unscanned_text wishes.form name u

-- the lines of files, in their order
abbrev pub texts_of : Wishes → List NamedSet → List Outcome → List ℕ
texts_of wishes sets [] = []
texts_of wishes sets (o ∷ os) = shown_text wishes sets o.name o.judged ++ texts_of wishes sets os

-- one more file is counted: as infected if something is found under some set
abbrev pub counted : Tally → Result (List Finding) Unscanned → Tally
counted t (Ok fs) = with_scanned t (is_found fs)
counted t (Err u) = with_missed t (status_of u)

-- files are counted one after the other
abbrev pub counted_from : Tally → List Outcome → Tally
counted_from t [] = t
counted_from t (o ∷ os) = counted_from (with_fault (counted t o.judged) o.fault) os

-- what is found in each file is true under its name
abbrev pub AreTrue : (List ℕ → List Finding → Type 0) → List Outcome → Type 0
AreTrue is_true [] = ⊤
AreTrue is_true (o ∷ os) = IfOk o.judged (λ fs. ∥ is_true o.name fs ∥₁) × AreTrue is_true os

-- a file stays for a fault only where it was to be moved
abbrev pub AreMoved : Bool → List Outcome → Type 0
AreMoved moves [] = ⊤
AreMoved moves (o ∷ os) = IsEndOfMove (is_moved moves o.judged) o.fault × AreMoved moves os

-- these names, each once
abbrev pub AreOfNames : Option (List (List ℕ)) → List Outcome → Type 0
AreOfNames None os = ⊤
AreOfNames (Some names) os = map (λ o. o.name) os ≡ names

-- Files of these names were scanned, and infected ones moved where they are: what is found in each is true, their lines were written in the order
-- of the names, and all are counted.
pub record AreScanned (is_true : List ℕ → List Finding → Type 0) (moves : Bool) (wishes : Wishes) (sets : List NamedSet) (before after : Tally) (old new : Option (List ℕ)) (names : Option (List (List ℕ))) : Type 0 where
  pub outcomes : List Outcome
  pub of_names : AreOfNames names outcomes
  pub are_true : AreTrue is_true outcomes
  pub are_moved : AreMoved moves outcomes
  pub lines : Appends old new (texts_of wishes sets outcomes)
  pub counts : after ≡ counted_from before outcomes

-- a front of such lines was written, and nothing else
pub record AreScannedSoFar (is_true : List ℕ → List Finding → Type 0) (wishes : Wishes) (sets : List NamedSet) (old new : Option (List ℕ)) : Type 0 where
  pub outcomes : List Outcome
  pub are_true : AreTrue is_true outcomes
  pub front : AppendsPrefix old new (texts_of wishes sets outcomes)

-- how many entries were left out, where that was asked for
abbrev pub left_members : Option ℕ → List (List Token)
left_members None = []
left_members (Some n) = number_tokens (codes "left_out") n ∷ []

-- the object of the counts
abbrev pub counts_tokens : Tally → Option ℕ → List Token
counts_tokens t left =
    object_tokens
    (number_tokens (codes "scanned") t.scanned ∷ number_tokens (codes "infected") t.infected ∷ number_tokens (codes "not_scanned") t.missed
    ∷ left_members left)

-- what is written of the counts: their object alone
abbrev pub counts_in : Form → Tally → Option ℕ → List ℕ
counts_in Json t left = object_line (counts_tokens t left)
counts_in form t left = []

-- the same, where a summary was asked for
abbrev pub counts_text : Wishes → Tally → Option ℕ → List ℕ
counts_text wishes t left = if wishes.has_summary then counts_in wishes.form t left else []

-- How a run ends: as its files, and where none was scanned it is no good end.
abbrev pub ended_status : Wishes → Tally → Status
ended_status wishes t = if t.scanned == 0 then graver_status t.worst Refused else concluded wishes t

-- how a run ends behind the lines of all files: as they ended, or by a fault
pub data IsEndOf (wishes : Wishes) (after : Tally) (left : Option ℕ) (old new : Option (List ℕ)) (status : Status) : Type 0 where
  concluded_so : Appends old new (counts_text wishes after left) → status ≡ ended_status wishes after → IsEndOf wishes after left old new status
  failed_at_last : (fault worst : Status) → AppendsPrefix old new (counts_text wishes after left) → IsFault fault → status ≡ graver_status worst fault → IsEndOf wishes after left old new status

-- How a scan of files ended: all were scanned and their counts written, and the status is that of them all; or a fault ended it behind a front of
-- true lines, or behind all of them and a front of the counts, and the status is that of this fault, or a graver one of a file before.
pub data Ends (is_true : List ℕ → List Finding → Type 0) (moves : Bool) (wishes : Wishes) (sets : List NamedSet) (before : Tally) (old new : Option (List ℕ)) (names : Option (List (List ℕ))) (status : Status) : Type 0 where
  all_scanned : (after : Tally) (left : Option ℕ) (mid : Option (List ℕ)) → AreScanned is_true moves wishes sets before after old mid names → Appends mid new (counts_text wishes after left) → status ≡ ended_status wishes after → Ends is_true moves wishes sets before old new names status
  failed : (fault worst : Status) → AreScannedSoFar is_true wishes sets old new → IsFault fault → status ≡ graver_status worst fault → Ends is_true moves wishes sets before old new names status
  failed_at_counts : (after : Tally) (left : Option ℕ) (mid : Option (List ℕ)) (fault worst : Status) → AreScanned is_true moves wishes sets before after old mid names → AppendsPrefix mid new (counts_text wishes after left) → IsFault fault → status ≡ graver_status worst fault → Ends is_true moves wishes sets before old new names status
