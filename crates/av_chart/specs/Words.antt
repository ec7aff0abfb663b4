-- The words of messages, answers, work and notes.
use Rattle.std.specs.Prelude.{ℕ, ◌+◌, ◌-◌, List, [], ◌∷◌, ◌++◌, length, take, slice_index_or, codes, decimal}
use Rattle.av_base.specs.Cause.{number_of}
use Rattle.av_base.specs.Line.{pieces_of}
use Rattle.av_base.specs.Part.{spelt}
use Rattle.av_base.specs.declared.message_id.MessageId.{MessageId}
use Rattle.av_base.specs.declared.port.Port.{Port}
use Rattle.av_base.specs.declared.port.Port.TheVariants.{One, Two}
use Rattle.av_base.specs.declared.verdict.Verdict.{Verdict}
use Rattle.av_base.specs.declared.verdict.Verdict.TheVariants.{Clean, Infected}
use Rattle.av_filter.specs.declared.note.Note.TheVariants as filter
use Rattle.av_frame.specs.Cause.{fail_number}
use Rattle.av_frame.specs.declared.cause.NoChunkCause.{NoChunkCause}
use Rattle.av_frame.specs.declared.cause.NoChunkCause.TheVariants.{NoQuestion, PastEnd}
use Rattle.av_frame.specs.Message.{Letter}
use Rattle.av_frame.specs.declared.message.Body.{Body}
use Rattle.av_frame.specs.declared.message.Body.TheVariants.{Scan, Chunk, NoChunk, Abort, Hello, Read, Reply, Updated}
use Rattle.av_frame.specs.declared.outcome.Outcome.{Outcome}
use Rattle.av_frame.specs.declared.outcome.Outcome.TheVariants.{Judged, Failed}
use Rattle.av_json.specs.Cause.{why_of}
use Rattle.av_pend.specs.declared.answer.Answer.{Answer}
use Rattle.av_pend.specs.declared.answer.Answer.TheVariants.{Granted, Unscanned, Denied}
use Rattle.av_output.specs.Text.{report_text}
use Rattle.av_history.specs.World.{WorldState}
use Rattle.av_history.specs.declared.report.Line.TheVariants.{Silent}
use Rattle.av_history.specs.declared.report.EventNote.{EventNote}
use Rattle.av_history.specs.declared.report.EventNote.TheVariants.{Filter}
use Rattle.av_history.specs.declared.report.Places.{Places}
use Rattle.av_chart.specs.Escape.{short}
use Rattle.av_chart.specs.Number.{capped}
use Rattle.av_output.specs.declared.message.Direction.{Direction}
use Rattle.av_output.specs.declared.message.Direction.TheVariants.{Down, Up}

-- the word of a line at a place, counted from 0; nothing where there are fewer
abbrev pub word_at : ℕ → List ℕ → List ℕ
word_at place line = slice_index_or (pieces_of 32 line) place []

-- the beginning of each of the world's lists
abbrev pub nowhere : Places
nowhere = record { answers = 0; down = 0; up = 0; works = 0 }

-- what a world tells of what lies between these places and of a note, without the end of its line
unfoldable pub told_of : WorldState → Places → Places → EventNote → List ℕ
told_of w before after note =
    let text = report_text w (record { line = Silent; before = before; after = after; note = note }) in take (length text - 1) text

-- the word of a note
abbrev pub told_note : WorldState → EventNote → List ℕ
told_note w note = told_of w nowhere nowhere note

-- the line of the work at a place, counted from 0
abbrev pub told_work : WorldState → ℕ → List ℕ
told_work w k = told_of w (record nowhere { works = k }) (record nowhere { works = capped (k + 1) }) (Filter filter.Quiet)

-- the line of the message at a place, counted from 0
abbrev pub told_message : WorldState → Direction → ℕ → List ℕ
told_message w Down k = told_of w (record nowhere { down = k }) (record nowhere { down = capped (k + 1) }) (Filter filter.Quiet)
told_message w Up k = told_of w (record nowhere { up = k }) (record nowhere { up = capped (k + 1) }) (Filter filter.Quiet)

-- the word of a way
abbrev pub way_word : Direction → List ℕ
way_word Down = codes "down "
way_word Up = codes "up "

-- the way and the number of a message
unfoldable pub numbered_text : Direction → ℕ → List ℕ
numbered_text way number = spelt (way_word way ∷ decimal number ∷ codes " " ∷ [])

-- the whole line of a message, of at most 200 characters behind its number
unfoldable pub message_title : WorldState → Direction → ℕ → List ℕ
message_title w way k = short (capped (length (numbered_text way (capped (k + 1))) + 200)) (told_message w way k)

-- a word and the question that it is about
unfoldable pub about_text : List ℕ → MessageId → List ℕ
about_text word id = spelt (word ∷ decimal id.boot ∷ codes "." ∷ decimal id.seq ∷ [])

-- a verdict, behind a blank
abbrev pub verdict_word : Verdict → List ℕ
verdict_word Clean = codes " clean"
verdict_word (Infected index end_at) = codes " infected"

-- how a question ended
unfoldable pub outcome_text : Outcome → List ℕ
outcome_text (Judged version verdict) = spelt (codes " v" ∷ decimal version ∷ verdict_word verdict ∷ [])
outcome_text (Failed cause) = spelt (codes " failed " ∷ decimal (fail_number cause) ∷ [])

-- why no content comes
abbrev pub missing_text : NoChunkCause → List ℕ
missing_text NoQuestion = codes " ended"
missing_text PastEnd = codes " past the end"

-- a word and a number behind it
unfoldable pub number_text : List ℕ → ℕ → List ℕ
number_text word n = spelt (word ∷ decimal n ∷ [])

-- what a message says
unfoldable pub body_text : Body → List ℕ
body_text (Scan id stream generation size) = about_text (codes "scan ") id ++ number_text (codes " g") generation
body_text (Chunk id offset bytes) = about_text (codes "chunk ") id ++ number_text (codes " at ") offset
body_text (NoChunk id offset cause) = about_text (codes "nochunk ") id ++ missing_text cause
body_text (Abort id) = about_text (codes "abort ") id
body_text (Hello volume version) = number_text (codes "hello v") version
body_text (Read id offset count) = about_text (codes "read ") id ++ number_text (codes " at ") offset
body_text (Reply id outcome) = about_text (codes "reply ") id ++ outcome_text outcome
body_text (Updated version) = number_text (codes "updated v") version

-- what ends the words about a port: nothing of the first
abbrev pub port_end : Port → List ℕ
port_end One = []
port_end Two = codes " port 2"

-- the words of a message on its arrow
unfoldable pub message_label : Direction → ℕ → Letter → List ℕ
message_label way number m = (numbered_text way number ++ body_text m.body) ++ port_end m.port

-- the words of an answer
unfoldable pub answer_label : Answer → List ℕ
answer_label (Granted open_id least stream generation version) =
    spelt (codes "open " ∷ decimal open_id ∷ codes " granted g" ∷ decimal generation ∷ codes " v" ∷ decimal version ∷ [])
answer_label (Unscanned open_id stream generation cause) =
    spelt
    (
    codes "open " ∷ decimal open_id ∷ codes " unscanned g" ∷ decimal generation ∷ codes ": " ∷ decimal (number_of cause)
    ∷ codes " " ∷ why_of cause ∷ []
    )
answer_label (Denied open_id cause) =
    spelt (codes "open " ∷ decimal open_id ∷ codes " denied: " ∷ decimal (number_of cause) ∷ codes " " ∷ why_of cause ∷ [])
