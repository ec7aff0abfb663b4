-- What is told of files that a guard was asked about.
use Rattle.std.specs.Prelude.{ℕ, ⊤, ◌≡◌, ◌<◌, Bool, false, true, List, Option, length, map}
use Rattle.std.specs.Borrow.{Bor}
use Rattle.std.specs.Io.KnownBytes.{Appends}
use Rattle.std.specs.List.{AllByRecursion, filter_map, zip}
use Rattle.std.specs.Option.{option_map}
use Rattle.std.specs.String.{string_bytes}
use Rattle.av_base.specs.Device.{AppendsPrefix}
use Rattle.av_client.specs.Asking.{AreAtTheirTags}
use Rattle.av_client.specs.declared.asking.AskingFault.{AskingFault}
use Rattle.av_client.specs.declared.asking.AskingFault.TheVariants as asking
use Rattle.av_client.specs.declared.reply.Reply.{Reply}
use Rattle.av_files.specs.Opened.{ended_tally}
use Rattle.av_program.specs.List.{AreNamed}
use Rattle.av_status.specs.Status.{IsAsGrave, graver_status}
use Rattle.av_status.specs.Tally.{concluded, no_files}
use Rattle.av_status.specs.declared.status.Status.{Status}
use Rattle.av_status.specs.declared.status.Status.TheVariants.{Done, Refused, Memory, Device}
use Rattle.av_status.specs.declared.tally.Tally.{Tally}
use Rattle.av_status.specs.declared.tally.Wishes.{Wishes}
use Rattle.avguard.specs.Told.{is_judged, tally_told, told_lines}
use Rattle.avguard.specs.declared.inquiry.Failed.{Failed}
use Rattle.avguard.specs.declared.inquiry.Found.{Found}
use Rattle.avguard.specs.declared.told.Told.{Told}
use Rattle.avguard_words.specs.declared.request.Ask.{Ask}

-- a file under its name, where it has an answer
abbrev pub told_as : Bor (List ℕ) × Option Reply → Option Told
told_as (name, answer) = option_map (λ a. record { name = name; reply = a }) answer

-- the files that have an answer, in the order of their names
abbrev pub answered : List (Bor (List ℕ)) → List (Option Reply) → List Told
answered names answers = filter_map told_as (zip names answers)

-- of so many files these were answered, and others failed with this greatest status
abbrev pub asked_tally : List Told → ℕ → Status → Tally
asked_tally told files missed = let t = tally_told no_files told in ended_tally t files (graver_status missed t.worst)

-- the names of files that were found
abbrev pub names_found : List Found → List (List ℕ)
names_found found = map (λ f. string_bytes f.name) found

-- a guard's service judged the file: its open was granted, or denied since a signature occurs
abbrev pub IsJudged : Told → Type 0
IsJudged t = is_judged t.reply ≡ true

-- each of the files with these names was answered, in their order, and judged
pub record AreJudged (names : List (List ℕ)) (told : List Told) : Type 0 where
  pub each : map (λ t. t.name.now) told ≡ names
  pub judged : AllByRecursion IsJudged told

-- so it is where all was done
abbrev pub AreJudgedIfDone : Status → List (List ℕ) → List Told → Type 0
AreJudgedIfDone Done names told = AreJudged names told
AreJudgedIfDone s names told = ⊤

-- of the lines of files of some names, each by the answer at its place, a front was written, and nothing else; none may be
pub record AreToldSoFar (answers : List (Option Reply)) (wishes : Wishes) (old new : Option (List ℕ)) : Type 0 where
  pub names : List (Bor (List ℕ))
  pub front : AppendsPrefix old new (told_lines wishes (answered names answers))

-- the same of the answers that a guard gave, each to the ask of its tag
pub record IsToldSoFar (wishes : Wishes) (old new : Option (List ℕ)) : Type 0 where
  pub answers : List (Option Reply)
  pub tags : AreAtTheirTags answers
  pub told : AreToldSoFar answers wishes old new

-- A guard was asked about the files of these names, while something had gone wrong before, or Done. It answered about some: their lines
-- were written, and the status is that of all the files and of what went wrong. It is Done only where each was judged.
pub record AreAsked (names : List (List ℕ)) (before : Status) (wishes : Wishes) (old new : Option (List ℕ)) (status : Status) : Type 0 where
  pub told : List Told
  pub ended : Status
  pub since : IsAsGrave before ended
  pub lines : Appends old new (told_lines wishes told)
  pub concluded : status ≡ concluded wishes (asked_tally told (length names) ended)
  pub judged : AreJudgedIfDone status names told

-- It was asked about the files that these names stand for, one at least: those files themselves, where no folder stands for those below it.
pub record AreFoundAndAsked (is_recursive : Bool) (given : List (List ℕ)) (before : Status) (wishes : Wishes) (old new : Option (List ℕ)) (status : Status) : Type 0 where
  pub names : List (List ℕ)
  pub some : 0 < length names
  pub missed : Status
  pub since : IsAsGrave before missed
  pub themselves : is_recursive ≡ false → (names ≡ given) × (missed ≡ before)
  pub asked : AreAsked names missed wishes old new status

-- It was asked about all files that the words name.
pub record AreNamedAndAsked (asked : Ask) (old new : Option (List ℕ)) (status : Status) : Type 0 where
  pub given : List (List ℕ)
  pub tally : Tally
  pub named : AreNamed asked.named given no_files tally
  pub of_given : AreFoundAndAsked asked.finding.is_recursive given tally.worst asked.named.wishes old new status

-- the status for a file that has no answer, and whether no other can have one
abbrev pub failed_of : AskingFault → Failed
failed_of asking.TooLarge = record { status = Refused; is_last = false }
failed_of asking.Unread = record { status = Device; is_last = false }
failed_of asking.Memory = record { status = Memory; is_last = true }
failed_of asking.Lost = record { status = Device; is_last = true }
