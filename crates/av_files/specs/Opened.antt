-- The lines that opened files print.
use Rattle.std.specs.Prelude.{ℕ, ◌-◌, Bool, false, true, not, if◌then◌else◌, List, [], ◌∷◌, codes, decimal, map}
use Rattle.std.specs.List.{filter}
use Rattle.av_base.specs.Part.{spelt}
use Rattle.av_base.specs.Cause.{number_of}
use Rattle.av_base.specs.declared.cause.Cause.{Cause}
use Rattle.av_base.specs.declared.cause.Cause.TheVariants.{Infected}
use Rattle.av_json.specs.File.{opened_tokens}
use Rattle.av_json.specs.Line.{object_line}
use Rattle.av_pend.specs.declared.answer.Answer.{Answer}
use Rattle.av_pend.specs.declared.answer.Answer.TheVariants.{Granted, Unscanned, Denied}
use Rattle.av_status.specs.Tally.{has_line, with_missed, with_scanned}
use Rattle.av_status.specs.declared.status.Status.{Status}
use Rattle.av_status.specs.declared.status.Status.TheVariants.{Done, Device}
use Rattle.av_status.specs.declared.tally.Form.{Form}
use Rattle.av_status.specs.declared.tally.Form.TheVariants.{Lines, Json, ZeroEnded}
use Rattle.av_status.specs.declared.tally.Shown.{Shown}
use Rattle.av_status.specs.declared.tally.Tally.{Tally}
use Rattle.av_status.specs.declared.tally.Wishes.{Wishes}
use Rattle.av_files.specs.Quoted.{quoted}
use Rattle.av_files.specs.declared.opened.Opened.{Opened}

-- an open that was let through, and one that was kept out, for a cause, with what ends the line
abbrev pub unscanned_text : List ℕ → ℕ → Cause → List ℕ → List ℕ
unscanned_text file generation cause end =
    spelt (file ∷ codes " unscanned generation " ∷ decimal generation
    ∷ codes " cause " ∷ decimal (number_of cause) ∷ end ∷ [])

-- the line of an open that was denied
abbrev pub denied_text : List ℕ → Cause → List ℕ → List ℕ
denied_text file cause end = spelt (file ∷ codes " denied cause " ∷ decimal (number_of cause) ∷ end ∷ [])

-- what an open of the file was told
abbrev pub answer_text : List ℕ → Answer → List ℕ → List ℕ
answer_text file (Granted number least stream generation version) end =
    spelt (file ∷ codes " granted generation " ∷ decimal generation ∷ codes " version " ∷ decimal version ∷ end ∷ [])
answer_text file (Unscanned number stream generation cause) end = unscanned_text file generation cause end
answer_text file (Denied number cause) end = denied_text file cause end

-- the object of a file that was opened, and the end of its line
abbrev pub object_of : Opened → List ℕ
object_of o = object_line (opened_tokens o.name.now o.answer)

-- the line of a file that was opened, in this form
abbrev pub line_of : Form → Opened → List ℕ
line_of Lines o = answer_text (quoted o.name.now) o.answer (codes "\n")
line_of Json o = object_of o
line_of ZeroEnded o = answer_text o.name.now o.answer (0 ∷ [])

-- the open was granted
abbrev pub is_granted : Answer → Bool
is_granted (Granted number least stream generation version) = true
is_granted (Unscanned number stream generation cause) = false
is_granted (Denied number cause) = false

-- an open was denied since a signature occurs
abbrev pub is_infection : Cause → Bool
is_infection Infected = true
is_infection c = false

-- the file's open was
abbrev pub is_infected_answer : Answer → Bool
is_infected_answer (Granted number least stream generation version) = false
is_infected_answer (Unscanned number stream generation cause) = false
is_infected_answer (Denied number cause) = is_infection cause

-- a signature occurs in the file
abbrev pub is_infected : Opened → Bool
is_infected o = is_infected_answer o.answer

-- the file has a line
abbrev pub is_shown : Shown → Opened → Bool
is_shown shown o = has_line shown (not (is_granted o.answer))

-- the line of a file, where it has one
abbrev pub opened_line : Wishes → Opened → List ℕ
opened_line wishes o = if is_shown wishes.shown o then line_of wishes.form o else []

-- the lines of the files that have one
abbrev pub opened_lines : Wishes → List Opened → List ℕ
opened_lines wishes opened = spelt (map (line_of wishes.form) (filter (is_shown wishes.shown) opened))

-- one file more: it was scanned where it was granted or a signature occurs, and where neither holds nobody has judged it
abbrev pub with_opened : Tally → Opened → Tally
with_opened t o = if is_granted o.answer then with_scanned t false else if is_infected o then with_scanned t true else with_missed t Device

-- files that were opened, counted one after the other
abbrev pub tally_from : Tally → List Opened → Tally
tally_from t [] = t
tally_from t (o ∷ opened) = tally_from (with_opened t o) opened

-- the opens ended with this status, or, where nothing failed at their end, with that of what was not judged
abbrev pub worst_of : Status → Status → Status
worst_of Done counted = counted
worst_of ended counted = ended

-- of so many files those that were opened are counted, and the opens ended with this status
abbrev pub ended_tally : Tally → ℕ → Status → Tally
ended_tally t files ended = record t { missed = files - t.scanned; worst = worst_of ended t.worst }
