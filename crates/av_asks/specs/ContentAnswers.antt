-- How a client reads answers that may send contents in parts.
use Rattle.std.specs.Prelude.{ℕ, ◌<◌, ◌^◌, ◌==◌, ◌&&◌, List, length, Option, None, Some, Result, Ok, Err, slice_index, if◌then◌else◌}
use Rattle.av_asks.specs.declared.answer.OpenAnswer.{OpenAnswer}
use Rattle.av_asks.specs.declared.content_answer.ContentAnswer.{ContentAnswer}
use Rattle.av_asks.specs.declared.content_answer.ContentAnswer.TheVariants.{Open, Large}
use Rattle.av_asks.specs.declared.fault.AnswerFault.{AnswerFault}
use Rattle.av_asks.specs.declared.fault.AnswerFault.TheVariants as fault
use Rattle.av_asks.specs.declared.head.Side.TheVariants.{Answers}
use Rattle.av_asks.specs.declared.large_answer.LargeAnswer.{LargeAnswer}
use Rattle.av_asks.specs.declared.large_answer.LargeAnswer.TheVariants.{Denied, Unscanned}
use Rattle.av_asks.specs.declared.large_answer.LargeCause.{LargeCause}
use Rattle.av_asks.specs.declared.sizes.TheConstants.{DENIED_SIZE, UNSCANNED_SIZE}
use Rattle.av_asks.specs.Head.{head_of}
use Rattle.av_asks.specs.LargeAnswers.{cause_of, large_frame}
use Rattle.av_asks.specs.Reading.{answer_of, front_by}
use Rattle.av_asks.specs.Spelling.{IsAnswer, answer_frame, number8}

-- an answer with a cause, or the fault
abbrev pub with_large : (LargeCause → LargeAnswer) → Option LargeCause → Result ContentAnswer AnswerFault
with_large told None = Err fault.Cause
with_large told (Some cause) = Ok (Large (told cause))

-- the answer of a body whose cause no ask has
unfoldable pub large_of : List ℕ → Result ContentAnswer AnswerFault
large_of body =
    if slice_index body 0 == 3 && length body == DENIED_SIZE then with_large (Denied (number8 body 1)) (cause_of (slice_index body 9)) else
    (if slice_index body 0 == 4 && length body == UNSCANNED_SIZE
    then with_large (Unscanned (number8 body 1) (number8 body 9)) (cause_of (slice_index body 17))
    else Err fault.Cause)

-- an answer as an ask has it, or else one of a cause of its own
abbrev pub or_large : List ℕ → Result OpenAnswer AnswerFault → Result ContentAnswer AnswerFault
or_large body (Ok a) = Ok (Open a)
or_large body (Err fault.Cause) = large_of body
or_large body (Err fault.Broken) = Err fault.Broken
or_large body (Err fault.Length) = Err fault.Length
or_large body (Err fault.Kind) = Err fault.Kind
or_large body (Err fault.Shape) = Err fault.Shape

-- the answer of a body that has an answer's kind
unfoldable pub content_answer_of : List ℕ → Result ContentAnswer AnswerFault
content_answer_of body = or_large body (answer_of body)

-- what stands at the front of a stream of such answers
unfoldable pub content_answer_front : List ℕ → Result (Option (ContentAnswer × ℕ)) AnswerFault
content_answer_front rest = front_by fault.Length fault.Kind content_answer_of rest (head_of Answers rest)

-- the one spelling of each
abbrev pub content_frame : ContentAnswer → List ℕ
content_frame (Open a) = answer_frame a
content_frame (Large a) = large_frame a

-- numbers of eight bytes
abbrev pub IsLarge : LargeAnswer → Type 0
IsLarge (Denied tag cause) = tag < 2 ^ 64
IsLarge (Unscanned tag generation cause) = (tag < 2 ^ 64) × (generation < 2 ^ 64)

abbrev pub IsContentAnswer : ContentAnswer → Type 0
IsContentAnswer (Open a) = IsAnswer a
IsContentAnswer (Large a) = IsLarge a
