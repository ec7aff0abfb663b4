-- The objects of answers, and of an open that waits.
use Rattle.std.specs.Prelude.{List, [], ◌∷◌, map, codes, if◌then◌else◌}
use Rattle.json.specs.Token.{Token}
use Rattle.av_json.specs.Cause.{cause_members}
use Rattle.av_json.specs.Member.{joined, number_tokens, object_tokens}
use Rattle.av_filter.specs.declared.note.Note.{Note as FilterNote}
use Rattle.av_filter.specs.declared.note.Note.TheVariants.{Submitted}
use Rattle.av_pend.specs.declared.answer.Answer.{Answer}
use Rattle.av_pend.specs.declared.answer.Answer.TheVariants.{Granted, Unscanned, Denied}
use Rattle.av_history.specs.declared.given.Given.{Given}
use Rattle.av_history.specs.declared.report.EventNote.{EventNote}
use Rattle.av_history.specs.declared.report.EventNote.TheVariants.{Filter, Service}
use Rattle.av_output.specs.Objects.Lines.{is}
use Rattle.av_output.specs.Text.Answers.{is_answered}

-- the object of an answer
abbrev pub answer_tokens : Answer → List Token
answer_tokens (Granted open_id least stream generation version) =
    object_tokens
    (is (codes "granted") ∷ number_tokens (codes "open") open_id ∷ number_tokens (codes "stream") stream
    ∷ number_tokens (codes "generation") generation ∷ number_tokens (codes "version") version
    ∷ number_tokens (codes "least") least ∷ [])
answer_tokens (Unscanned open_id stream generation cause) =
    object_tokens
    (is (codes "unscanned") ∷ number_tokens (codes "open") open_id ∷ number_tokens (codes "stream") stream
    ∷ number_tokens (codes "generation") generation ∷ cause_members cause)
answer_tokens (Denied open_id cause) =
    object_tokens (is (codes "denied") ∷ number_tokens (codes "open") open_id ∷ cause_members cause)

-- the object of an answer that was given
abbrev pub given_tokens : Given → List Token
given_tokens g = answer_tokens g.answer

-- the objects of answers
abbrev pub answers_tokens : List Given → List Token
answers_tokens answers = joined (map given_tokens answers)

-- the object of an open that was submitted, where no answer is among these
abbrev pub submitted_tokens : FilterNote → List Given → List Token
submitted_tokens (Submitted open_id) answers =
    if is_answered open_id answers then [] else object_tokens (is (codes "pended") ∷ number_tokens (codes "open") open_id ∷ [])
submitted_tokens _ answers = []

-- the object of an open that was submitted and waits
abbrev pub pended_tokens : EventNote → List Given → List Token
pended_tokens (Filter note) answers = submitted_tokens note answers
pended_tokens (Service note) answers = []
