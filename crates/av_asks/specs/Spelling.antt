use Rattle.std.specs.Prelude.{ℕ, ◌≤◌, ◌<◌, ◌^◌, List, [], ◌∷◌, ◌++◌, length, take, drop, Result, Ok, Err, nat_lt, if◌then◌else◌}
use Rattle.std.specs.Int.{w32, w64, to_be_bytes, from_be_bytes}
use Rattle.av_base.specs.Cause.{number_of}
use Rattle.av_asks.specs.declared.sizes.TheConstants.{DENIED_SIZE, GRANTED_SIZE, MAX_CONTENT, MAX_LABEL, UNSCANNED_SIZE}
use Rattle.av_asks.specs.declared.answer.OpenAnswer.{OpenAnswer}
use Rattle.av_asks.specs.declared.answer.OpenAnswer.TheVariants.{Granted, Denied, Unscanned}
use Rattle.av_asks.specs.declared.fault.TooLong.{TooLong}
use Rattle.av_asks.specs.declared.fault.TooLong.TheVariants as long
use Rattle.av_asks.specs.declared.ask.Ask.{Ask}

-- a number in eight bytes, the highest first
unfoldable pub field8 : ℕ → List ℕ
field8 n = to_be_bytes w64 n

-- a number in four bytes, the highest first
unfoldable pub field4 : ℕ → List ℕ
field4 n = to_be_bytes w32 n

-- the number of eight bytes from a place on
abbrev pub number8 : List ℕ → ℕ → ℕ
number8 bytes at = from_be_bytes w64 (take 8 (drop at bytes))

-- the number of the first four bytes
abbrev pub number4 : List ℕ → ℕ
number4 bytes = from_be_bytes w32 (take 4 bytes)

-- a frame: the body's length in four bytes, then the body
abbrev pub framed : List ℕ → List ℕ
framed body = field4 (length body) ++ body

-- what is asked: a content, with the client's tag and a label for logs
pub record Asked : Type 0 where
  pub tag : ℕ
  pub label : List ℕ
  pub content : List ℕ

-- an ask's fields, with the content as its bytes
abbrev pub asked : Ask → Asked
asked ask = record { tag = ask.tag; label = ask.label; content = ask.content.items }

-- a tag of eight bytes, a label of at most 255 and a content of at most 1,048,576
abbrev pub IsAsk : Asked → Type 0
IsAsk a = (a.tag < 2 ^ 64) × (length a.label ≤ MAX_LABEL) × (length a.content ≤ MAX_CONTENT)

-- the body of an ask: its kind, the tag, how long the label is, the label, and the content
abbrev pub ask_body : Asked → List ℕ
ask_body a = 1 ∷ (field8 a.tag ++ length a.label ∷ (a.label ++ a.content))

-- an ask's one spelling
abbrev pub ask_frame : Asked → List ℕ
ask_frame a = framed (ask_body a)

-- an ask behind what was written, or what of it is too long, the label first
abbrev pub written : List ℕ → Asked → Result (List ℕ) TooLong
written out a =
    if nat_lt MAX_LABEL (length a.label) then Err long.Label else
    (if nat_lt MAX_CONTENT (length a.content) then Err long.Content else Ok (out ++ ask_frame a))

-- numbers of eight bytes
abbrev pub IsAnswer : OpenAnswer → Type 0
IsAnswer (Granted tag generation version) = (tag < 2 ^ 64) × (generation < 2 ^ 64) × (version < 2 ^ 64)
IsAnswer (Denied tag cause) = tag < 2 ^ 64
IsAnswer (Unscanned tag generation cause) = (tag < 2 ^ 64) × (generation < 2 ^ 64)

-- the body of an answer: its kind, the tag, and the fields in their order
abbrev pub answer_body : OpenAnswer → List ℕ
answer_body (Granted tag generation version) = 2 ∷ (field8 tag ++ field8 generation ++ field8 version)
answer_body (Denied tag cause) = 3 ∷ (field8 tag ++ number_of cause ∷ [])
answer_body (Unscanned tag generation cause) = 4 ∷ (field8 tag ++ field8 generation ++ number_of cause ∷ [])

-- an answer's one spelling
abbrev pub answer_frame : OpenAnswer → List ℕ
answer_frame a = framed (answer_body a)

-- how many bytes the body of an answer has
abbrev pub size_of : OpenAnswer → ℕ
size_of (Granted tag generation version) = GRANTED_SIZE
size_of (Denied tag cause) = DENIED_SIZE
size_of (Unscanned tag generation cause) = UNSCANNED_SIZE
