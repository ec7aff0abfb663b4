use Rattle.std.specs.Prelude.{ℕ, ◌≡◌, ◌≤◌, ◌+◌, ◌-◌, ◌==◌, ◌&&◌, Bool, true, false, not, nat_lt, List, [], ◌∷◌, ◌++◌, length, map, nat_le, take, Option, None, Some, Result, Ok, Err, codes, min, if◌then◌else◌}
use Rattle.std.specs.Int.{w32, from_be_bytes}
use Rattle.std.specs.declared.alloc.AllocError.{AllocError}
use Rattle.av_clamd.specs.declared.about.About.{About}
use Rattle.av_clamd.specs.declared.door.Reading.{Reading}
use Rattle.av_clamd.specs.declared.door.Reading.TheVariants.{Command, Size, Piece, Nothing}
use Rattle.av_clamd.specs.declared.door.Sending.{Sending}
use Rattle.av_clamd.specs.declared.door.Sending.TheVariants.{Whole, InParts}
use Rattle.av_clamd.specs.declared.door.Handling.{Handling}
use Rattle.av_clamd.specs.declared.door.Handling.TheVariants.{Collected, Relayed, Dropped}
use Rattle.av_clamd.specs.declared.door.Heard.{Heard}
use Rattle.av_clamd.specs.declared.door.Heard.TheVariants as heard
use Rattle.av_clamd.specs.declared.door.TheConstants.{LONGEST, MAX_CONTENT, MOST_KEPT}
use Rattle.std.specs.Str.{bytes_eq}
use Rattle.av_clamd.specs.declared.text.Paths.{Paths}
use Rattle.av_clamd.specs.declared.text.Paths.TheVariants.{Refused, Taken}
use Rattle.av_clamd.specs.Text.{answered, end_of, goes_on, is_marked, line_of, path_taken, word_of}

-- A door: what is read next; the bytes of the command, or of a piece's length, that came so far; the content so far, where it is
-- collected; what is done with its bytes; whether a session was begun, and how many commands it has had; how the last command ended;
-- what becomes of paths; and what is known of the guard.
pub record Opened : Type 0 where
  pub reading : Reading
  pub begun : List ℕ
  pub content : List ℕ
  pub way : Handling
  pub session : Bool
  pub number : ℕ
  pub end : ℕ
  pub paths : Paths
  pub about : Option About

-- What came of a byte: a line that is said, or a content that is asked about, under its command's number and end. Of a content that
-- comes in parts: that it begins, with its first bytes; one of its bytes; that it ends. Or a path that is asked about, and whether that
-- goes on past the first infected file.
pub data Told : Type 0 where
  Said : List ℕ → Told
  Asked : ℕ → ℕ → List ℕ → Told
  Began : ℕ → ℕ → List ℕ → Told
  Brought : ℕ → Told
  Ended : Told
  Named : ℕ → ℕ → Bool → List ℕ → Told

-- what was heard, with its bytes
abbrev pub told : Heard → List Told
told (heard.Say line) = Said line.items ∷ []
told (heard.Ask number end content) = Asked number end content.items ∷ []
told (heard.Begin number end first) = Began number end first.items ∷ []
told (heard.More bytes) = map Brought bytes.now
told heard.End = Ended ∷ []
told (heard.Path number end is_many path) = Named number end is_many path.items ∷ []

-- a door that nobody spoke to
abbrev pub fresh : Opened
fresh = record { reading = Command; begun = []; content = []; way = Collected; session = false; number = 0; end = 10; paths = Refused; about = None }

-- the same, of a door that takes paths
abbrev pub fresh_with_paths : Opened
fresh_with_paths = record fresh { paths = Taken }

-- outside of a session a reply is the last
abbrev pub after_reply : Opened → Reading
after_reply d = if d.session then Command else Nothing

-- a line is said, and then this is read
abbrev pub says : List ℕ → Reading → Opened → Opened × List Told
says text next d = (record d { reading = next }, Said (line_of d.number text d.end) ∷ [])

-- a word that is answered by a line; any other closes
abbrev pub answers : Option (List ℕ) → Opened → Opened × List Told
answers (Some text) d = says text (after_reply d) d
answers None d = says (if d.session then codes "Command invalid inside IDSESSION. ERROR" else codes "UNKNOWN COMMAND") Nothing d

-- a path is asked about
abbrev pub names : Bool → List ℕ → Opened → Opened × List Told
names is_many path d = (record d { reading = after_reply d }, Named d.number d.end is_many path ∷ [])

-- a word that asks about a path that is taken, or any other
abbrev pub asks_about : Option (List ℕ) → List ℕ → Opened → Opened × List Told
asks_about (Some path) word d = names (goes_on word) path d
asks_about None word d = answers (answered d.about d.paths word) d

-- a word, and whether its command was marked
abbrev pub obeyed : Bool → List ℕ → Opened → Opened × List Told
obeyed marked word d =
    if bytes_eq word (codes "INSTREAM") && marked then (record d { reading = Size; content = []; way = Collected }, [])
    else if bytes_eq word (codes "IDSESSION") && marked && not d.session then (record d { reading = Command; session = true }, [])
    else if bytes_eq word (codes "END") && d.session then (record d { reading = Nothing }, [])
    else asks_about (path_taken d.paths word) word d

-- the number of the next command: they count in a session alone
abbrev pub next_number : Opened → ℕ
next_number d = if d.session then min (d.number + 1) 18446744073709551615 else d.number

-- a command is whole
abbrev pub commanded : Opened → Opened × List Told
commanded d =
    obeyed (is_marked d.begun) (word_of d.begun)
    (record d { begun = []; number = next_number d; end = end_of d.begun })

-- a byte of a command; at 1,024 bytes without an end nothing more is read
abbrev pub in_command : ℕ → Opened → Opened × List Told
in_command b d =
    if b == end_of d.begun then commanded d
    else if nat_lt (length d.begun + 1) LONGEST then (record d { begun = d.begun ++ b ∷ [] }, [])
    else (record d { reading = Nothing }, [])

-- the content is whole: it is asked about, or it ends, or it was too long
abbrev pub told_at_end : Handling → Opened → List Told
told_at_end Collected d = Asked d.number d.end d.content ∷ []
told_at_end Relayed d = Ended ∷ []
told_at_end Dropped d = []

abbrev pub finished : Opened → Opened × List Told
finished d = (record d { reading = after_reply d; content = []; way = Collected }, told_at_end d.way d)

-- a content of which so many bytes were collected goes in parts, now that a piece of this length follows
abbrev pub goes_in_parts : Sending → ℕ → ℕ → Bool
goes_in_parts Whole kept size = false
goes_in_parts InParts kept size = nat_le kept MOST_KEPT && nat_lt MOST_KEPT (kept + size)

-- a piece of so many bytes follows of a content that is collected; one that would make it too long is told once, and all of it is
-- dropped
abbrev pub enlarged : Sending → ℕ → Opened → Opened × List Told
enlarged sending size d =
    if goes_in_parts sending (length d.content) size
    then (record d { reading = Piece size; content = []; way = Relayed }, Began d.number d.end d.content ∷ [])
    else if nat_lt MAX_CONTENT (length d.content + size)
    then says (codes "stream: INSTREAM size limit exceeded. ERROR") (Piece size) (record d { content = []; way = Dropped })
    else (record d { reading = Piece size }, [])

-- a piece of so many bytes follows
abbrev pub by_way : Handling → Sending → ℕ → Opened → Opened × List Told
by_way Collected sending size d = enlarged sending size d
by_way Relayed sending size d = (record d { reading = Piece size }, [])
by_way Dropped sending size d = (record d { reading = Piece size }, [])

-- the length of a piece is whole: 0 is behind the last
abbrev pub sized : Sending → ℕ → Opened → Opened × List Told
sized sending size d = if size == 0 then finished d else by_way d.way sending size d

-- a byte of a piece's length, which has four
abbrev pub in_size : Sending → ℕ → Opened → Opened × List Told
in_size sending b d =
    if nat_lt (length d.begun + 1) 4 then (record d { begun = d.begun ++ b ∷ [] }, [])
    else sized sending (from_be_bytes w32 (take 4 (d.begun ++ b ∷ []))) (record d { begun = [] })

-- the content with bytes behind it, where it is collected
abbrev pub content_with : Handling → List ℕ → List ℕ → List ℕ
content_with Collected content bytes = content ++ bytes
content_with Relayed content bytes = content
content_with Dropped content bytes = content

-- the bytes one by one, where the content comes in parts
abbrev pub handed_out : Handling → List ℕ → List Told
handed_out Collected bytes = []
handed_out Relayed bytes = map Brought bytes
handed_out Dropped bytes = []

-- bytes of a piece that has so many left
abbrev pub pieced : ℕ → List ℕ → Opened → Opened × List Told
pieced left bytes d = (
  record d {
    reading = (if nat_lt (length bytes) left then Piece (left - length bytes) else Size);
    content = content_with d.way d.content bytes;
  },
  handed_out d.way bytes,
)

-- what a byte does
abbrev pub by_reading : Reading → Sending → ℕ → Opened → Opened × List Told
by_reading Command sending b d = in_command b d
by_reading Size sending b d = in_size sending b d
by_reading (Piece left) sending b d = pieced left (b ∷ []) d
by_reading Nothing sending b d = (d, [])

-- what a byte does to a door, where contents go in parts or not
unfoldable pub step : Sending → ℕ → Opened → Opened × List Told
step sending b d = by_reading d.reading sending b d

-- what came before what comes next
abbrev pub onto : List Told → Opened × List Told → Opened × List Told
onto first heard = (heard.0, first ++ heard.1)

-- what bytes do to a door, one after another
abbrev pub heard_of : Sending → List ℕ → Opened → Opened × List Told
heard_of sending [] d = (d, [])
heard_of sending (b ∷ bs) d = onto (step sending b d).1 (heard_of sending bs (step sending b d).0)

-- what was heard, where it is something
abbrev pub option_told : Option Heard → List Told
option_told None = []
option_told (Some h) = told h

-- some of a content is a byte at least
abbrev pub HasBytes : Option Heard → Type 0
HasBytes None = Unit {0}
HasBytes (Some (heard.Say line)) = Unit {0}
HasBytes (Some (heard.Ask number end content)) = Unit {0}
HasBytes (Some (heard.Begin number end first)) = Unit {0}
HasBytes (Some (heard.More bytes)) = 1 ≤ length bytes.now
HasBytes (Some heard.End) = Unit {0}
HasBytes (Some (heard.Path number end is_many path)) = Unit {0}

-- a door took bytes, and this came of them
abbrev pub Gives : Opened → Option Heard → Opened × List Told → Type 0
Gives new h wanted = ((new, option_told h) ≡ wanted) × HasBytes h

-- the same, unless memory was refused
abbrev pub Steps : Opened → Result (Option Heard) AllocError → Opened × List Told → Type 0
Steps new (Ok h) wanted = Gives new h wanted
Steps new (Err e) wanted = Unit {0}

-- a piece's bytes are read
abbrev pub is_piece : Reading → Bool
is_piece Command = false
is_piece Size = false
is_piece (Piece left) = true
is_piece Nothing = false

-- a content comes in parts
abbrev pub is_relayed : Handling → Bool
is_relayed Collected = false
is_relayed Relayed = true
is_relayed Dropped = false

-- how many bytes are to come of a piece, of a content that comes in parts
abbrev pub relay_left : Reading → Handling → ℕ
relay_left (Piece left) Relayed = left
relay_left (Piece left) Collected = 0
relay_left (Piece left) Dropped = 0
relay_left Command way = 0
relay_left Size way = 0
relay_left Nothing way = 0

-- nothing more is read
abbrev pub is_nothing : Reading → Bool
is_nothing Command = false
is_nothing Size = false
is_nothing (Piece left) = false
is_nothing Nothing = true

-- how many bytes are kept of what has begun
abbrev pub kept_by : Reading → List ℕ → List ℕ → Option ℕ
kept_by Command [] content = None
kept_by Command (b ∷ bs) content = Some (length (b ∷ bs) + length content)
kept_by Size begun content = Some (length begun + length content)
kept_by (Piece left) begun content = Some (length begun + length content)
kept_by Nothing begun content = None

abbrev pub kept_of : Opened → Option ℕ
kept_of d = kept_by d.reading d.begun d.content
