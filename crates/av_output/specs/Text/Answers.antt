-- The lines of answers, and of an open that waits.
use Rattle.std.specs.Prelude.{ℕ, Bool, ◌==◌, List, [], ◌∷◌, map, codes, decimal, if◌then◌else◌}
use Rattle.std.specs.List.{list_any}
use Rattle.av_base.specs.Cause.{number_of}
use Rattle.av_base.specs.Part.{spelt}
use Rattle.av_filter.specs.declared.note.Note.{Note as FilterNote}
use Rattle.av_filter.specs.declared.note.Note.TheVariants.{Submitted}
use Rattle.av_pend.specs.Pend.{open_of}
use Rattle.av_pend.specs.declared.answer.Answer.{Answer}
use Rattle.av_pend.specs.declared.answer.Answer.TheVariants.{Granted, Unscanned, Denied}
use Rattle.av_history.specs.declared.given.Given.{Given}
use Rattle.av_history.specs.declared.report.EventNote.{EventNote}
use Rattle.av_history.specs.declared.report.EventNote.TheVariants.{Filter, Service}

-- what the open of a number is told
abbrev pub answer_parts : Answer → List (List ℕ)
answer_parts (Granted open_id least stream generation version) =
    codes "open " ∷ decimal open_id ∷ codes " granted stream " ∷ decimal stream
    ∷ codes " generation " ∷ decimal generation ∷ codes " version " ∷ decimal version
    ∷ codes " least " ∷ decimal least ∷ codes "\n" ∷ []
answer_parts (Unscanned open_id stream generation cause) =
    codes "open " ∷ decimal open_id ∷ codes " unscanned stream " ∷ decimal stream
    ∷ codes " generation " ∷ decimal generation ∷ codes " cause " ∷ decimal (number_of cause)
    ∷ codes "\n" ∷ []
answer_parts (Denied open_id cause) =
    codes "open " ∷ decimal open_id ∷ codes " denied cause " ∷ decimal (number_of cause) ∷ codes "\n" ∷ []

-- the line of an answer
abbrev pub answer_text : Answer → List ℕ
answer_text a = spelt (answer_parts a)

-- the line of an answer that was given
abbrev pub given_text : Given → List ℕ
given_text g = answer_text g.answer

-- the lines of answers
abbrev pub answers_text : List Given → List ℕ
answers_text answers = spelt (map given_text answers)

-- whether the open of this number has its answer among these
abbrev pub is_answered : ℕ → List Given → Bool
is_answered open_id answers = list_any (λ g. open_of g.answer == open_id) answers

-- an open that was submitted, and waits
abbrev pub submitted_text : FilterNote → List Given → List ℕ
submitted_text (Submitted open_id) answers =
    if is_answered open_id answers then [] else spelt (codes "open " ∷ decimal open_id ∷ codes " pended\n" ∷ [])
submitted_text _ answers = []

-- the line of an open that was submitted and waits
abbrev pub pended_text : EventNote → List Given → List ℕ
pended_text (Filter note) answers = submitted_text note answers
pended_text (Service note) answers = []
