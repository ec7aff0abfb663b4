-- How a guard reads what a client says that may send contents in parts.
use Rattle.std.specs.Prelude.{ℕ, ◌≡◌, ◌+◌, ◌-◌, ◌≤◌, ◌==◌, ◌&&◌, ◌||◌, Bool, is_some, not, nat_le, nat_lt, List, [], ◌∷◌, ◌++◌, length, drop, Option, None, Some, Result, Ok, Err, IsOk, slice_index, if◌then◌else◌}
use Rattle.av_base.specs.declared.refusal.Refusal.{Refusal}
use Rattle.av_base.specs.declared.refusal.Refusal.TheVariants.{Fault, NoMemory}
use Rattle.av_asks.specs.declared.client_reader.ClientSays.{ClientSays}
use Rattle.av_asks.specs.declared.client_reader.ClientSays.TheVariants as says
use Rattle.av_asks.specs.declared.client_reader.Content.{Content}
use Rattle.av_asks.specs.declared.client_reader.Told.{Told}
use Rattle.av_asks.specs.declared.client_reader.Told.TheVariants as told
use Rattle.av_asks.specs.declared.contents.How.{How}
use Rattle.av_asks.specs.declared.contents.How.TheVariants.{Whole, GivenUp}
use Rattle.av_asks.specs.declared.fault.AskFault.{AskFault}
use Rattle.av_asks.specs.declared.fault.AskFault.TheVariants as ask
use Rattle.av_asks.specs.declared.fault.ClientFault.{ClientFault}
use Rattle.av_asks.specs.declared.fault.ClientFault.TheVariants as fault
use Rattle.av_asks.specs.declared.large_head.LargeKind.{LargeKind}
use Rattle.av_asks.specs.declared.large_head.LargeKind.TheVariants as kind
use Rattle.av_asks.specs.declared.sizes.TheConstants.{ASK_HEAD, BEGIN_HEAD, END_SIZE, MAX_ASK, MAX_BEGIN, MAX_COUNT, MAX_PART_BODY, PART_HEAD, WATCH_SIZE}
use Rattle.av_asks.specs.Contents.{Saying, Asks, Begins, Brings, Ends, Watches, bytewise}
use Rattle.av_asks.specs.Reading.{ask_of}
use Rattle.av_asks.specs.Spelling.{Asked, asked, number4, number8}

-- ---- the front of a frame

-- the kind of a body that begins with this byte
abbrev pub kind_of : ℕ → Option LargeKind
kind_of byte =
    if byte == 1 then Some kind.Ask else (if byte == 5 then Some kind.Begin else
    (if byte == 6 then Some kind.Part else (if byte == 7 then Some kind.End else
    (if byte == 8 then Some kind.Watch else None))))

-- how many bytes a body of a kind can have
abbrev pub fits_kind : LargeKind → ℕ → Bool
fits_kind kind.Ask size = nat_le ASK_HEAD size && nat_le size MAX_ASK
fits_kind kind.Begin size = nat_le BEGIN_HEAD size && nat_le size MAX_BEGIN
fits_kind kind.Part size = nat_lt PART_HEAD size && nat_le size MAX_PART_BODY
fits_kind kind.End size = size == END_SIZE
fits_kind kind.Watch size = size == WATCH_SIZE

-- how many bytes of a frame are enough to do something: all but a part's bytes
abbrev pub length_of : LargeKind → ℕ → ℕ
length_of kind.Ask size = 4 + size
length_of kind.Begin size = 4 + size
length_of kind.Part size = 4 + PART_HEAD
length_of kind.End size = 4 + size
length_of kind.Watch size = 4 + size

-- the same, once a kind is there
abbrev pub front_by : Option LargeKind → ℕ → ℕ → Result (Option (LargeKind × ℕ)) ClientFault
front_by None size len = Err fault.Kind
front_by (Some k) size len =
    if not (fits_kind k size) then Err fault.Shape else (if nat_lt len (length_of k size) then Ok None else Ok (Some (k, size)))

-- whether the bytes of a frame that came are enough, and for which kind and length of a body
unfoldable pub front_of : List ℕ → Result (Option (LargeKind × ℕ)) ClientFault
front_of bytes =
    if nat_lt (length bytes) 4 then Ok None else
    (if not (nat_le ASK_HEAD (number4 bytes) && nat_le (number4 bytes) MAX_ASK) then Err fault.Length else
    (if length bytes == 4 then Ok None else front_by (kind_of (slice_index bytes 4)) (number4 bytes) (length bytes)))

-- up to which length of a front nothing new is told
abbrev pub wanted_by : Option LargeKind → ℕ → ℕ → ℕ
wanted_by None size len = len + 1
wanted_by (Some k) size len = length_of k size

unfoldable pub wanted_of : List ℕ → ℕ
wanted_of bytes =
    if nat_lt (length bytes) 4 then 4 else
    (if length bytes == 4 then 5 else wanted_by (kind_of (slice_index bytes 4)) (number4 bytes) (length bytes))

-- ---- what is said, and the content that is open then

abbrev pub Turn : Type 0
Turn = Result (Saying × Option Content) ClientFault

-- why an ask is none
abbrev pub of_ask : AskFault → ClientFault
of_ask ask.Broken = fault.Length
of_ask ask.Length = fault.Length
of_ask ask.Kind = fault.Kind
of_ask ask.Label = fault.Label
of_ask ask.Content = fault.Content

-- an ask leaves the content that is open
abbrev pub asks : Option Content → Result Asked AskFault → Turn
asks content (Ok a) = Ok (Asks a, content)
asks content (Err f) = Err (of_ask f)

-- a content begins where none is open; its label fills the body
abbrev pub begins : List ℕ → Option Content → Turn
begins body (Some c) = Err fault.Within
begins body None =
    if length body == BEGIN_HEAD + slice_index body 9
    then Ok (Begins (number8 body 1) (drop BEGIN_HEAD body), Some (record { tag = number8 body 1; count = 0; left = 0 }))
    else Err fault.Label

-- a part of so many bytes of the open content begins
abbrev pub parts : ℕ → ℕ → Option Content → Turn
parts tag bytes None = Err fault.Tag
parts tag bytes (Some c) =
    if not (tag == c.tag) then Err fault.Tag else
    (if nat_lt MAX_COUNT (c.count + bytes) then Err fault.Count else Ok (Brings tag [], Some (record c { left = bytes })))

abbrev pub how_of : ℕ → Result How ClientFault
how_of n = if n == 0 then Ok Whole else (if n == 1 then Ok GivenUp else Err fault.How)

abbrev pub ends_by : ℕ → ℕ → ℕ → Result How ClientFault → Turn
ends_by tag count came (Err f) = Err f
ends_by tag count came (Ok how) = if count == came then Ok (Ends tag how, None) else Err fault.Count

-- the open content ends, with the count of the bytes that came
abbrev pub ends : ℕ → ℕ → ℕ → Option Content → Turn
ends tag how count None = Err fault.Tag
ends tag how count (Some c) = if not (tag == c.tag) then Err fault.Tag else ends_by tag count c.count (how_of how)

-- what a front says that is enough
abbrev pub said_by : LargeKind → ℕ → List ℕ → Option Content → Turn
said_by kind.Ask size body content = asks content (ask_of body)
said_by kind.Begin size body content = begins body content
said_by kind.Part size body content = parts (number8 body 1) (size - PART_HEAD) content
said_by kind.End size body content = ends (number8 body 1) (slice_index body 9) (number8 body 10) content
said_by kind.Watch size body content = Ok (Watches (number8 body 1) (number8 body 9), content)

-- ---- a reader

-- the bytes of a frame that came, the content that is open, and the fault that was met: behind it nothing is heard
pub record Speaking : Type 0 where
  pub front : List ℕ
  pub content : Option Content
  pub fault : Option ClientFault

-- nothing came
abbrev pub fresh : Speaking
fresh = record { front = []; content = None; fault = None }

-- how many bytes of a part are to come
abbrev pub left_of : Option Content → ℕ
left_of None = 0
left_of (Some c) = c.left

-- so many bytes of a part came
abbrev pub gone_on : ℕ → Content → Content
gone_on n c = record c { count = c.count + n; left = c.left - n }

abbrev pub by_turn : Speaking → Turn → Speaking × List Saying
by_turn s (Ok (said, content)) = (record s { front = []; content = content }, said ∷ [])
by_turn s (Err f) = (record s { front = []; fault = Some f }, [])

abbrev pub by_front : List ℕ → Speaking → Result (Option (LargeKind × ℕ)) ClientFault → Speaking × List Saying
by_front bytes s (Ok None) = (record s { front = bytes }, [])
by_front bytes s (Ok (Some (k, size))) = by_turn s (said_by k size (drop 4 bytes) s.content)
by_front bytes s (Err f) = (record s { front = []; fault = Some f }, [])

-- the front has these bytes now
unfoldable pub fronted : List ℕ → Speaking → Speaking × List Saying
fronted bytes s = by_front bytes s (front_of bytes)

-- a byte of the part that is open
abbrev pub by_content : ℕ → Speaking → Option Content → Speaking × List Saying
by_content b s None = fronted (s.front ++ b ∷ []) s
by_content b s (Some c) =
    if nat_lt 0 c.left then (record s { content = Some (gone_on 1 c) }, Brings c.tag (b ∷ []) ∷ []) else fronted (s.front ++ b ∷ []) s

abbrev pub unless_broken : ℕ → Speaking → Option ClientFault → Speaking × List Saying
unless_broken b s None = by_content b s s.content
unless_broken b s (Some f) = (s, [])

-- what a byte does to a reader
unfoldable pub step : ℕ → Speaking → Speaking × List Saying
step b s = unless_broken b s s.fault

-- what was said before what is said next
abbrev pub after : List Saying → Speaking × List Saying → Speaking × List Saying
after first heard = (heard.0, first ++ heard.1)

-- what bytes do to a reader, one after another
abbrev pub heard_of : List ℕ → Speaking → Speaking × List Saying
heard_of [] s = (s, [])
heard_of (b ∷ bs) s = after (step b s).1 (heard_of bs (step b s).0)

-- what a reader gives, with its bytes
abbrev pub saying : ClientSays → Saying
saying (says.Ask a) = Asks (asked a)
saying (says.Begin tag label) = Begins tag label
saying (says.Part tag some) = Brings tag some.now
saying (says.End tag how) = Ends tag how
saying (says.Watch tag version) = Watches tag version

abbrev pub bytewise_of : Option ClientSays → List Saying
bytewise_of None = []
bytewise_of (Some said) = bytewise (saying said)

-- a part has no more bytes to come than can be counted
abbrev pub IsCounted : Option Content → Type 0
IsCounted None = Unit {0}
IsCounted (Some c) = c.count + c.left ≤ MAX_COUNT

-- ---- what the calls of a reader give

-- a front says this: of a part that begins no byte has come
abbrev pub told_saying : Told → Saying
told_saying (told.Ask a) = Asks (asked a)
told_saying (told.Begin tag label) = Begins tag label
told_saying (told.Part tag) = Brings tag []
told_saying (told.End tag how) = Ends tag how
told_saying (told.Watch tag version) = Watches tag version

abbrev pub told_list : Option Told → List Saying
told_list None = []
told_list (Some t) = told_saying t ∷ []

-- what a front was read as, where memory was not refused; it is refused only where something is said
abbrev pub IsTurn : Result (Told × Option Content) (Refusal ClientFault) → Turn → Type 0
IsTurn (Ok (t, content)) wanted = wanted ≡ Ok (told_saying t, content)
IsTurn (Err (Fault f)) wanted = wanted ≡ Err f
IsTurn (Err NoMemory) wanted = IsOk wanted

-- the bytes that came of the frame that has begun, and how many of it say something: 0 as long as its kind has not come
abbrev pub begun_of : Speaking → ℕ × ℕ
begun_of s = (length s.front, (if nat_lt (length s.front) 5 then 0 else wanted_of s.front))

-- a content is open, or a frame has begun
abbrev pub is_within : Speaking → Bool
is_within s = is_some s.content || not (length s.front == 0)
