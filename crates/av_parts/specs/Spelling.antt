-- The one spelling of each order and of each word.
use Rattle.std.specs.Prelude.{ℕ, ◌+◌, ◌≤◌, ◌<◌, ◌^◌, ◌==◌, List, [], ◌∷◌, ◌++◌, length, take, drop, Result, Ok, Err, nat_lt, if◌then◌else◌}
use Rattle.std.specs.Int.{w32, w64, to_be_bytes, from_be_bytes}
use Rattle.av_parts.specs.declared.sizes.TheConstants.{CLEAN_SIZE, END_SIZE, HELLO_SIZE, INFECTED_SIZE, MAX_INDEX, MAX_PART, NUMBER_SIZE, PART_HEAD, UNJUDGED_SIZE}
use Rattle.av_parts.specs.declared.fault.UnfitPart.{UnfitPart}
use Rattle.av_parts.specs.declared.fault.UnfitPart.TheVariants.{Empty, TooLong}
use Rattle.av_parts.specs.declared.word.Unjudged.{Unjudged}
use Rattle.av_parts.specs.declared.word.Unjudged.TheVariants.{Full, Newer}
use Rattle.av_parts.specs.declared.word.Word.{Word}
use Rattle.av_parts.specs.declared.word.Word.TheVariants as word
use Rattle.av_parts.specs.declared.word.Said.{Said}
use Rattle.av_parts.specs.declared.word.Said.TheVariants.{Hello, Of}
use Rattle.av_parts.specs.Orders.{Order, Begins, Brings, Ends, Drops}

-- a number in eight bytes, the highest first
unfoldable pub field8 : ℕ → List ℕ
field8 n = to_be_bytes w64 n

-- a number in four bytes, the highest first
unfoldable pub field4 : ℕ → List ℕ
field4 n = to_be_bytes w32 n

-- the number of eight bytes from a place on
abbrev pub number8 : List ℕ → ℕ → ℕ
number8 bytes at = from_be_bytes w64 (take 8 (drop at bytes))

-- the number of four bytes from a place on
abbrev pub number4 : List ℕ → ℕ → ℕ
number4 bytes at = from_be_bytes w32 (take 4 (drop at bytes))

-- a frame: the body's length in four bytes, then the body
abbrev pub framed : List ℕ → List ℕ
framed body = field4 (length body) ++ body

-- the body of an order: its kind, the content's number, and what else it says
abbrev pub order_body : Order → List ℕ
order_body (Begins n) = 16 ∷ field8 n
order_body (Brings n some) = 17 ∷ (field8 n ++ some)
order_body (Ends n count) = 18 ∷ (field8 n ++ field8 count)
order_body (Drops n) = 19 ∷ field8 n

-- an order's one spelling
abbrev pub order_frame : Order → List ℕ
order_frame o = framed (order_body o)

-- how many bytes the body of an order has
abbrev pub size_of : Order → ℕ
size_of (Begins n) = NUMBER_SIZE
size_of (Brings n some) = PART_HEAD + length some
size_of (Ends n count) = END_SIZE
size_of (Drops n) = NUMBER_SIZE

-- a part that is spelled has 1 to 1,048,576 bytes
abbrev pub IsSpelled : Order → Type 0
IsSpelled (Begins n) = Unit {0}
IsSpelled (Brings n some) = (1 ≤ length some) × (length some ≤ MAX_PART)
IsSpelled (Ends n count) = Unit {0}
IsSpelled (Drops n) = Unit {0}

-- the numbers of an order have eight bytes
abbrev pub IsOrder : Order → Type 0
IsOrder (Begins n) = n < 2 ^ 64
IsOrder (Brings n some) = (n < 2 ^ 64) × (1 ≤ length some) × (length some ≤ MAX_PART)
IsOrder (Ends n count) = (n < 2 ^ 64) × (count < 2 ^ 64)
IsOrder (Drops n) = n < 2 ^ 64

-- an order after what was written, or why it can't be spelled
abbrev pub written : List ℕ → Order → Result (List ℕ) UnfitPart
written out (Begins n) = Ok (out ++ order_frame (Begins n))
written out (Brings n some) =
    if length some == 0 then Err Empty else
    (if nat_lt MAX_PART (length some) then Err TooLong else Ok (out ++ order_frame (Brings n some)))
written out (Ends n count) = Ok (out ++ order_frame (Ends n count))
written out (Drops n) = Ok (out ++ order_frame (Drops n))

-- the number of why there is no verdict
abbrev pub number_of : Unjudged → ℕ
number_of Full = 1
number_of Newer = 2

-- the body of a word: its kind, the content's number, the status, and what the status says
abbrev pub word_body : Word → List ℕ
word_body (word.Clean n version count) = 21 ∷ (field8 n ++ 0 ∷ (field8 version ++ field8 count))
word_body (word.Infected n version index end_at) = 21 ∷ (field8 n ++ 1 ∷ (field8 version ++ (field4 index ++ field8 end_at)))
word_body (word.None n why) = 21 ∷ (field8 n ++ 2 ∷ number_of why ∷ [])

-- the body of what a service says: a greeting has its format and the version
abbrev pub said_body : Said → List ℕ
said_body (Hello version) = 20 ∷ 1 ∷ field8 version
said_body (Of w) = word_body w

-- its one spelling
abbrev pub said_frame : Said → List ℕ
said_frame said = framed (said_body said)

-- how many bytes a body has
abbrev pub word_size : Word → ℕ
word_size (word.Clean n version count) = CLEAN_SIZE
word_size (word.Infected n version index end_at) = INFECTED_SIZE
word_size (word.None n why) = UNJUDGED_SIZE

abbrev pub said_size : Said → ℕ
said_size (Hello version) = HELLO_SIZE
said_size (Of w) = word_size w

-- the fields are in their ranges
abbrev pub IsVersion : ℕ → Type 0
IsVersion version = (1 ≤ version) × (version < 2 ^ 64)

abbrev pub IsWord : Word → Type 0
IsWord (word.Clean n version count) = (1 ≤ n) × (n < 2 ^ 64) × IsVersion version × (count < 2 ^ 64)
IsWord (word.Infected n version index end_at) =
    (1 ≤ n) × (n < 2 ^ 64) × IsVersion version × (index ≤ MAX_INDEX) × (1 ≤ end_at) × (end_at < 2 ^ 64)
IsWord (word.None n why) = (1 ≤ n) × (n < 2 ^ 64)

abbrev pub IsSaid : Said → Type 0
IsSaid (Hello version) = IsVersion version
IsSaid (Of w) = IsWord w
