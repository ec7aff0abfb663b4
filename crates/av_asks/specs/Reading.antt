use Rattle.std.specs.Prelude.{ℕ, ◌+◌, ◌-◌, ◌==◌, List, length, take, drop, Option, None, Some, Result, Ok, Err, nat_lt, slice_index, if◌then◌else◌}
use Rattle.av_base.specs.Refused.{map_ok}
use Rattle.av_base.specs.declared.cause.Cause.{Cause}
use Rattle.av_base.specs.declared.cause.Cause.TheVariants.{NoStream, Infected, NotConnected, Busy, TimedOut, PortDisconnected, ScanFailed, Unsettled, StreamRemoved, FilterRestart}
use Rattle.av_asks.specs.declared.sizes.TheConstants.{ASK_HEAD, DENIED_SIZE, GRANTED_SIZE, MAX_CONTENT, UNSCANNED_SIZE}
use Rattle.av_asks.specs.declared.fault.AskFault.{AskFault}
use Rattle.av_asks.specs.declared.fault.AskFault.TheVariants as ask
use Rattle.av_asks.specs.declared.fault.AnswerFault.{AnswerFault}
use Rattle.av_asks.specs.declared.fault.AnswerFault.TheVariants as answer
use Rattle.av_asks.specs.declared.answer.OpenAnswer.{OpenAnswer}
use Rattle.av_asks.specs.declared.answer.OpenAnswer.TheVariants.{Granted, Denied, Unscanned}
use Rattle.av_asks.specs.declared.head.Side.TheVariants.{Asks, Answers}
use Rattle.av_asks.specs.declared.head.Head.{Head}
use Rattle.av_asks.specs.declared.head.Head.TheVariants as head
use Rattle.av_asks.specs.Spelling.{Asked, number8}
use Rattle.av_asks.specs.Head.{head_of}

-- the ask of a body that has an ask's length and kind, whose label has so many bytes
abbrev pub ask_labelled : List ℕ → ℕ → Result Asked AskFault
ask_labelled body count =
    if nat_lt (length body) (ASK_HEAD + count) then Err ask.Label else
    (if nat_lt MAX_CONTENT (length body - (ASK_HEAD + count)) then Err ask.Content else
    Ok (record { tag = number8 body 1; label = take count (drop ASK_HEAD body); content = drop (ASK_HEAD + count) body }))

-- the ask of a body that has an ask's length and kind
unfoldable pub ask_of : List ℕ → Result Asked AskFault
ask_of body = ask_labelled body (slice_index body 9)

-- the cause of a number
unfoldable pub cause_of : ℕ → Option Cause
cause_of n =
    if n == 1 then Some NoStream else (if n == 2 then Some Infected else (if n == 3 then Some NotConnected else
    (if n == 4 then Some Busy else (if n == 5 then Some TimedOut else (if n == 6 then Some PortDisconnected else
    (if n == 7 then Some ScanFailed else (if n == 8 then Some Unsettled else (if n == 9 then Some StreamRemoved else
    (if n == 10 then Some FilterRestart else None)))))))))

-- an answer with the cause of a number, or Cause
abbrev pub with_cause : (Cause → OpenAnswer) → Option Cause → Result OpenAnswer AnswerFault
with_cause told None = Err answer.Cause
with_cause told (Some cause) = Ok (told cause)

-- an answer that grants, or its fault
unfoldable pub granted_of : List ℕ → Result OpenAnswer AnswerFault
granted_of body =
    if length body == GRANTED_SIZE then Ok (Granted (number8 body 1) (number8 body 9) (number8 body 17)) else Err answer.Shape

-- an answer that denies, or its fault
unfoldable pub denied_of : List ℕ → Result OpenAnswer AnswerFault
denied_of body =
    if length body == DENIED_SIZE then with_cause (Denied (number8 body 1)) (cause_of (slice_index body 9)) else Err answer.Shape

-- an answer that lets through, or its fault
unfoldable pub unscanned_of : List ℕ → Result OpenAnswer AnswerFault
unscanned_of body =
    if length body == UNSCANNED_SIZE
    then with_cause (Unscanned (number8 body 1) (number8 body 9)) (cause_of (slice_index body 17))
    else Err answer.Shape

-- the answer of a body that has an answer's kind
unfoldable pub answer_of : List ℕ → Result OpenAnswer AnswerFault
answer_of body =
    if slice_index body 0 == 2 then granted_of body else
    (if slice_index body 0 == 3 then denied_of body else unscanned_of body)

-- what was read of a frame, with how many bytes the frame takes
abbrev pub with_size : {A F : Type 0} → ℕ → Result A F → Result (Option (A × ℕ)) F
with_size size read = map_ok (λ x. Some (x, size)) read

-- what stands at the front of bytes: what its frame says, nothing as long as the frame isn't whole, or a fault
abbrev pub front_by : {A F : Type 0} → F → F → (List ℕ → Result A F) → List ℕ → Head → Result (Option (A × ℕ)) F
front_by length_fault kind_fault read rest head.Waits = Ok None
front_by length_fault kind_fault read rest head.Length = Err length_fault
front_by length_fault kind_fault read rest head.Kind = Err kind_fault
front_by length_fault kind_fault read rest (head.Whole size) = with_size (4 + size) (read (take size (drop 4 rest)))

-- the same of a stream of asks
unfoldable pub ask_front : List ℕ → Result (Option (Asked × ℕ)) AskFault
ask_front rest = front_by ask.Length ask.Kind ask_of rest (head_of Asks rest)

-- the same of a stream of answers
unfoldable pub answer_front : List ℕ → Result (Option (OpenAnswer × ℕ)) AnswerFault
answer_front rest = front_by answer.Length answer.Kind answer_of rest (head_of Answers rest)
