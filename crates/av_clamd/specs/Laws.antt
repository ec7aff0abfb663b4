use Rattle.std.specs.Prelude.{ℕ, ◌≡◌, ◌+◌, ◌<◌, ◌≤◌, ◌^◌, List, [], ◌∷◌, ◌++◌, length, map}
use Rattle.std.specs.Int.{w32, to_be_bytes}
use Rattle.std.specs.List.{AllByRecursion, concat}
use Rattle.av_clamd.specs.declared.door.Reading.{Reading}
use Rattle.av_clamd.specs.declared.door.Reading.TheVariants.{Command, Size, Piece, Nothing}
use Rattle.av_clamd.specs.declared.door.Sending.{Sending}
use Rattle.av_clamd.specs.declared.door.Sending.TheVariants.{Whole, InParts}
use Rattle.av_clamd.specs.declared.door.Handling.{Handling}
use Rattle.av_clamd.specs.declared.door.Handling.TheVariants.{Collected, Relayed, Dropped}
use Rattle.av_clamd.specs.declared.door.TheConstants.{LONGEST, MAX_CONTENT, MOST_KEPT}
use Rattle.av_clamd.specs.declared.reply.Spoken.{Spoken}
use Rattle.av_clamd.specs.declared.reply.Spoken.TheVariants.{Clean}
use Rattle.av_clamd.specs.declared.text.Paths.TheVariants.{Refused}
use Rattle.av_clamd.specs.Text.{path_reply_of, reply_of}
use Rattle.av_clamd.specs.Door.{Opened, Told, Said, Asked, Began, Brought, Ended, Named, after_reply, fresh, heard_of, onto}

-- two pieces do what both together do
abbrev pub IsCutAnywhere : Type 0
IsCutAnywhere =
    (sending : Sending) (first second : List ℕ) (d : Opened)
    → heard_of sending (first ++ second) d ≡ onto (heard_of sending first d).1 (heard_of sending second (heard_of sending first d).0)

-- bytes of a content that are still to be kept, of a piece with so many left
abbrev pub kept_of_left : Handling → ℕ → ℕ
kept_of_left Collected left = left
kept_of_left Relayed left = 0
kept_of_left Dropped left = 0

-- bytes of a piece that are still to be kept
abbrev pub coming : Reading → Handling → ℕ
coming Command way = 0
coming Size way = 0
coming (Piece left) way = kept_of_left way left
coming Nothing way = 0

-- a piece that is read has a byte left
abbrev pub HasLeft : Reading → Type 0
HasLeft Command = Unit {0}
HasLeft Size = Unit {0}
HasLeft (Piece left) = 1 ≤ left
HasLeft Nothing = Unit {0}

-- nothing is kept of a content that comes in parts, or is dropped
abbrev pub HoldsNone : Handling → List ℕ → Type 0
HoldsNone Collected content = Unit {0}
HoldsNone Relayed content = content ≡ []
HoldsNone Dropped content = content ≡ []

-- a door keeps less than the longest command, and with what is to come no more than so many bytes of a content that is collected
abbrev pub KeepsAtMost : ℕ → Opened → Type 0
KeepsAtMost most d =
    (length d.begun < LONGEST) × (length d.content + coming d.reading d.way ≤ most) × HasLeft d.reading × HoldsNone d.way d.content

-- a content that is asked about has at most so many bytes; what came of one that begins to come in parts has at most 65,536
abbrev pub IsSmall : ℕ → Told → Type 0
IsSmall most (Said line) = Unit {0}
IsSmall most (Asked number end content) = length content ≤ most
IsSmall most (Began number end first) = length first ≤ MOST_KEPT
IsSmall most (Brought b) = Unit {0}
IsSmall most Ended = Unit {0}
IsSmall most (Named number end is_many path) = Unit {0}

-- whatever comes, a door that keeps no more of a content than so much goes on so
abbrev pub KeepsTo : ℕ → Sending → Type 0
KeepsTo most sending =
    (bytes : List ℕ) (d : Opened) → KeepsAtMost most d
    → KeepsAtMost most (heard_of sending bytes d).0 × AllByRecursion (IsSmall most) (heard_of sending bytes d).1

-- a door that nobody spoke to keeps little
abbrev pub BeginsLittle : Type 0
BeginsLittle = KeepsAtMost MOST_KEPT fresh × KeepsAtMost MAX_CONTENT fresh

-- whether contents go in parts or not, now or later, a door keeps at most 1,048,576 bytes of one
abbrev pub StaysLittle : Type 0
StaysLittle = (sending : Sending) → KeepsTo MAX_CONTENT sending

-- while they go in parts it keeps at most 65,536
abbrev pub StaysLess : Type 0
StaysLess = KeepsTo MOST_KEPT InParts

-- what came is no path
abbrev pub IsNoPath : Told → Type 0
IsNoPath (Said line) = Unit {0}
IsNoPath (Asked number end content) = Unit {0}
IsNoPath (Began number end first) = Unit {0}
IsNoPath (Brought b) = Unit {0}
IsNoPath Ended = Unit {0}
IsNoPath (Named number end is_many path) = ⊥

-- a door that refuses paths goes on so whatever comes, and hands none out
abbrev pub HandsNoPathOut : Type 0
HandsNoPathOut =
    (sending : Sending) (bytes : List ℕ) (d : Opened) → d.paths ≡ Refused
    → ((heard_of sending bytes d).0.paths ≡ Refused) × AllByRecursion IsNoPath (heard_of sending bytes d).1

-- a content as a client sends it: each piece after its length in four bytes, and then the length 0
abbrev pub spelled : List (List ℕ) → List ℕ
spelled [] = to_be_bytes w32 0
spelled (piece ∷ pieces) = to_be_bytes w32 (length piece) ++ (piece ++ spelled pieces)

-- each piece has bytes, and no more than a length can say
abbrev pub ArePieces : List (List ℕ) → Type 0
ArePieces pieces = AllByRecursion (λ piece. (1 ≤ length piece) × (length piece < 2 ^ 32)) pieces

-- a door that reads the first length of a content, and one that has read it all
abbrev pub at_content : Opened → Opened
at_content d = record d { reading = Size; begun = []; content = []; way = Collected }

abbrev pub behind_content : Opened → Opened
behind_content d = record d { reading = after_reply d; begun = []; content = []; way = Collected }

-- how many bytes of a content are collected at most
abbrev pub most_of : Sending → ℕ
most_of Whole = MAX_CONTENT
most_of InParts = MOST_KEPT

-- a content with no more bytes is asked about as it was sent
abbrev pub AsksAboutTheWhole : Type 0
AsksAboutTheWhole =
    (sending : Sending) (pieces : List (List ℕ)) (d : Opened) → ArePieces pieces → length (concat pieces) ≤ most_of sending
    → heard_of sending (spelled pieces) (at_content d) ≡ (behind_content d, Asked d.number d.end (concat pieces) ∷ [])

-- one with more comes in parts, which put together are what was sent
abbrev pub PartsAreTheWhole : Type 0
PartsAreTheWhole =
    (pieces : List (List ℕ)) (d : Opened) → ArePieces pieces → MOST_KEPT < length (concat pieces)
    → (first rest : List ℕ) × (first ++ rest ≡ concat pieces)
    × (heard_of InParts (spelled pieces) (at_content d) ≡ (behind_content d, Began d.number d.end first ∷ (map Brought rest ++ Ended ∷ [])))

-- the reply of a content that was granted is the reply of no other
abbrev pub IsOkForCleanAlone : Type 0
IsOkForCleanAlone = (number end : ℕ) (verdict : Spoken) → reply_of number end verdict ≡ reply_of number end Clean → verdict ≡ Clean

-- the reply of a path that was granted is the reply of no other verdict, and of no other verdict about another path
abbrev pub IsPathOkForCleanAlone : Type 0
IsPathOkForCleanAlone =
    (number end : ℕ) (path other : List ℕ) (verdict : Spoken)
    → path_reply_of number end other verdict ≡ path_reply_of number end path Clean → verdict ≡ Clean
