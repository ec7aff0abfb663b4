-- What a client says, and what it is told.
use Rattle.std.specs.Prelude.{ℕ, ◌≡◌, ◌≤◌, ◌+◌, ◌*◌, ◌/◌, ◌%◌, ◌^◌, ◌==◌, ◌&&◌, Bool, true, false, nat_le, nat_lt, if◌then◌else◌, List, [], ◌++◌, length, drop, Option, None, Some, Vec}
use Rattle.std.specs.Borrow.{Bor}
use Rattle.std.specs.declared.alloc.Global.{Global}
use Rattle.av_asks.specs.LargeAnswers.{cause_number, large_frame}
use Rattle.av_asks.specs.Speaking.{after, begun_of, bytewise_of, fresh, heard_of as said_of, left_of as to_come}
use Rattle.av_asks.specs.Contents.{newer_frame}
use Rattle.av_asks.specs.Spelling.{answer_frame}
use Rattle.av_asks.specs.declared.answer.OpenAnswer.{OpenAnswer}
use Rattle.av_asks.specs.declared.answer.OpenAnswer.TheVariants as open_answer
use Rattle.av_asks.specs.Speaking.{Speaking}
use Rattle.av_asks.specs.declared.client_reader.ClientSays.{ClientSays}
use Rattle.av_asks.specs.declared.client_reader.ClientSays.TheVariants as says
use Rattle.av_asks.specs.declared.contents.How.{How}
use Rattle.av_asks.specs.declared.contents.How.TheVariants as how
use Rattle.av_asks.specs.declared.large_answer.LargeAnswer.TheVariants as large_answer
use Rattle.av_asks.specs.declared.large_answer.LargeCause.{LargeCause}
use Rattle.av_asks.specs.declared.large_answer.LargeCause.TheVariants as large_cause
use Rattle.av_base.specs.Cause.{number_of}
use Rattle.av_base.specs.declared.cause.Cause.TheVariants as cause
use Rattle.av_clamd.specs.Door.{Opened, heard_of, is_relayed, kept_of, onto, option_told, relay_left}
use Rattle.av_clamd.specs.Text.{reply_of, timed_out}
use Rattle.av_clamd.specs.declared.about.About.{About}
use Rattle.av_clamd.specs.declared.door.Heard.{Heard}
use Rattle.av_clamd.specs.declared.door.Heard.TheVariants as heard
use Rattle.av_clamd.specs.declared.door.Sending.{Sending}
use Rattle.av_clamd.specs.declared.reply.Spoken.{Spoken}
use Rattle.av_clamd.specs.declared.reply.Spoken.TheVariants.{Clean, Found, FoundAt, NoVerdict, TooLarge}
use Rattle.av_guard.specs.declared.answered.Answered.{Answered}
use Rattle.av_guard.specs.declared.answered.Answered.TheVariants.{Granted, Infected, Denied, Unscanned}
use Rattle.av_large.specs.declared.content.Ending.{Ending}
use Rattle.av_large.specs.declared.content.Ending.TheVariants as ending
use Rattle.av_arrival.specs.Refusal.{refusal_frame}
use Rattle.av_arrival.specs.declared.refusal.TurnedAway.TheVariants.{OtherSocket}
use Rattle.av_turns.specs.declared.client.Kind.{Kind}
use Rattle.av_turns.specs.declared.client.Kind.TheVariants as kind
use Rattle.av_turns.specs.declared.client.Left.{Left}
use Rattle.av_turns.specs.declared.client.Left.TheVariants as left
use Rattle.av_peers.specs.Line.{unsent}
use Rattle.av_peers.specs.declared.client.Place.TheVariants.{Free}
use Rattle.av_peers.specs.declared.client.Thing.{Thing}
use Rattle.av_peers.specs.declared.client.Thing.TheVariants as thing
use Rattle.av_peers.specs.declared.client.Client.{Client}
use Rattle.av_peers.specs.declared.client.Speech.{Speech}
use Rattle.av_peers.specs.declared.client.Speech.TheVariants.{Opens, Clamd}
use Rattle.av_peers.specs.declared.line.Connection.{Connection}
use Rattle.av_peers.specs.declared.told.LargeTold.{LargeTold}
use Rattle.av_peers.specs.declared.told.LargeTold.TheVariants as told

-- one that came, and speaks so
abbrev pub came : Connection → Speech → Vec ℕ Global → Client
came line speech kept =
    record {
      line = line;
      speech = speech;
      kept = kept;
      owed = 0;
      has_asked = false;
      is_done = false;
      within = None;
      watch = None;
      place = Free;
      notes = [];
      is_sending = false;
    }

-- a reader of the socket for opens that nothing came to
abbrev pub silent : Speaking
silent = fresh

-- which protocol it speaks
abbrev pub kind_of : Speech → Kind
kind_of (Opens reader) = kind.Opens
kind_of (Clamd door) = kind.Clamd

-- it speaks as clients of clamd do
abbrev pub is_of_clamd : Speech → Bool
is_of_clamd (Opens reader) = false
is_of_clamd (Clamd door) = true

-- what it speaks, once it is known how the guard is
abbrev pub learned : Speech → About → Speech
learned (Opens reader) about = Opens reader
learned (Clamd door) about = Clamd (record door { about = Some about })

-- it says no more, is owed nothing, and was sent all
abbrev pub is_over : Client → Bool
is_over c = c.is_done && c.owed == 0 && length (unsent c.line) == 0

-- what a client is told that says nothing
abbrev pub late_text : Speech → List ℕ
late_text (Opens reader) = []
late_text (Clamd door) = timed_out door.end

-- what a client is told that said what it can't say: at the socket for opens that no service is taken there, where it asked nothing
abbrev pub farewell : Speech → Bool → List ℕ
farewell (Opens reader) has_asked = if has_asked then [] else refusal_frame OtherSocket
farewell (Clamd door) has_asked = []

-- what a client is told of the version, where it asked under a tag
abbrev pub newer_text : Option ℕ → ℕ → List ℕ
newer_text None version = []
newer_text (Some tag) version = newer_frame tag version

-- what is left of a frame of which so many bytes came, and which has so many, where that is known
abbrev pub begun_left : ℕ → ℕ → Left
begun_left came total =
    if came == 0 then left.Nothing else
    (if nat_lt 0 total && nat_le total came then left.Whole came else left.Part came total)

-- what is left of a content or a command that has begun: of a content that comes in parts no byte is kept but those of a length
abbrev pub words_left : Bool → Option ℕ → Left
words_left relays None = left.Nothing
words_left relays (Some held) = if relays && held == 0 then left.Nothing else left.Part held 0

-- what is left of what came: bytes that were not heard yet, or what has begun
abbrev pub left_of : Speech → ℕ → Left
left_of (Opens reader) kept = if nat_lt 0 kept then left.Whole kept else begun_left (begun_of reader).0 (begun_of reader).1
left_of (Clamd door) kept = if nat_lt 0 kept then left.Whole kept else words_left (is_relayed door.way) (kept_of door)

-- how a content ends, for the guard
abbrev pub ending_of : How → Ending
ending_of how.Whole = ending.Whole
ending_of how.GivenUp = ending.GivenUp

-- what a client said at the socket for opens, as the guard takes it
abbrev pub thing_of : Option ClientSays → Option Thing
thing_of None = None
thing_of (Some (says.Ask a)) = Some (thing.Asked a.tag (Some a.label) a.content)
thing_of (Some (says.Begin tag label)) = Some (thing.Begun tag (Some label) None)
thing_of (Some (says.Part tag some)) = Some (thing.Part some)
thing_of (Some (says.End tag h)) = Some (thing.Ended (ending_of h))
thing_of (Some (says.Watch tag version)) = Some (thing.Watches tag version)

-- What a client says next at the socket for opens, with so many bytes of a piece: that, and then what the rest of the piece says, is what
-- the whole piece says.
abbrev pub SaysNext : Option Thing → ℕ → List ℕ → Speaking → Speaking → Type 0
SaysNext heard taken piece old new =
    (said : Option ClientSays) × (heard ≡ thing_of said) × (after (bytewise_of said) (said_of (drop taken piece) new) ≡ said_of piece old)
    × (taken ≤ length piece) × (1 ≤ length piece → 1 ≤ taken)

-- how many bytes are to come of the part that has begun
abbrev pub part_left : Speech → ℕ
part_left (Opens reader) = to_come reader.content
part_left (Clamd door) = relay_left door.reading door.way

-- the tag of a stream that came as the command of this number, which ended so; and back
abbrev pub tag_of : ℕ → ℕ → ℕ
tag_of number end = number % 2 ^ 56 * 256 + end

abbrev pub of_tag : ℕ → ℕ × ℕ
of_tag tag = (tag / 256, tag % 256)

-- what came of a client of clamd's words, as the guard takes it: a line that is said at once is put after what waits for the client
abbrev pub IsWords : Option Thing → Option Heard → List ℕ → List ℕ → Type 0
IsWords given None waiting told = (given ≡ None) × (told ≡ waiting)
IsWords given (Some (heard.Say line)) waiting told = (given ≡ Some (thing.Said (length line.items))) × (told ≡ waiting ++ line.items)
IsWords given (Some (heard.Ask number end content)) waiting told =
    (given ≡ Some (thing.Asked (tag_of number end) None content)) × (told ≡ waiting)
IsWords given (Some (heard.Begin number end first)) waiting told =
    (given ≡ Some (thing.Begun (tag_of number end) None (Some first))) × (told ≡ waiting)
IsWords given (Some (heard.More bytes)) waiting told = (given ≡ Some (thing.Part bytes)) × (told ≡ waiting)
IsWords given (Some heard.End) waiting told = (given ≡ Some (thing.Ended ending.Whole)) × (told ≡ waiting)
IsWords given (Some (heard.Path number end is_many path)) waiting told = ⊥

-- What a client of clamd says next, with so many bytes of a piece: that, and then what the rest of the piece says, is what the whole
-- piece says. Contents go in parts, or not.
abbrev pub SaysOne : Sending → Option Thing → ℕ → List ℕ → Opened → Opened → List ℕ → List ℕ → Type 0
SaysOne sending given taken piece door next waiting told =
    (came : Option Heard) × IsWords given came waiting told
    × (onto (option_told came) (heard_of sending (drop taken piece) next) ≡ heard_of sending piece door)
    × (taken ≤ length piece) × (1 ≤ length piece → 1 ≤ taken)

-- an answer as the open protocol has it: an infection is a denial
abbrev pub open_answer_of : ℕ → Answered → OpenAnswer
open_answer_of tag (Granted generation version) = open_answer.Granted tag generation version
open_answer_of tag (Infected version signature end) = open_answer.Denied tag cause.Infected
open_answer_of tag (Denied c) = open_answer.Denied tag c
open_answer_of tag (Unscanned generation c) = open_answer.Unscanned tag generation c

-- an infection, by the signature's name where that is known
abbrev pub found : ℕ → ℕ → Option (Bor (List ℕ)) → Spoken
found version signature (Some name) = Found name
found version signature None = FoundAt signature version

-- an answer as clients of clamd hear it
abbrev pub spoken_answer : Answered → Option (Bor (List ℕ)) → Spoken
spoken_answer (Granted generation version) name = Clean
spoken_answer (Infected version signature end) name = found version signature name
spoken_answer (Denied c) name = NoVerdict (number_of c)
spoken_answer (Unscanned generation c) name = NoVerdict (number_of c)

-- a content in parts that was not judged, for a cause of its own
abbrev pub spoken_cause : LargeCause → Spoken
spoken_cause large_cause.TooLarge = TooLarge
spoken_cause large_cause.AskAgain = NoVerdict (cause_number large_cause.AskAgain)
spoken_cause large_cause.GivenUp = NoVerdict (cause_number large_cause.GivenUp)
spoken_cause large_cause.NoParts = NoVerdict (cause_number large_cause.NoParts)

abbrev pub spoken_of : LargeTold → Option (Bor (List ℕ)) → Spoken
spoken_of (told.Answered answer) name = spoken_answer answer name
spoken_of (told.Denied c) name = spoken_cause c
spoken_of (told.Unscanned c) name = spoken_cause c

-- an answer as the open protocol has it
abbrev pub open_text : ℕ → LargeTold → List ℕ
open_text tag (told.Answered answer) = answer_frame (open_answer_of tag answer)
open_text tag (told.Denied c) = large_frame (large_answer.Denied tag c)
open_text tag (told.Unscanned c) = large_frame (large_answer.Unscanned tag 2 c)

-- the bytes by which an answer is told
abbrev pub told_text : Speech → ℕ → LargeTold → Option (Bor (List ℕ)) → List ℕ
told_text (Opens reader) tag answer name = open_text tag answer
told_text (Clamd door) tag answer name = reply_of (of_tag tag).0 (of_tag tag).1 (spoken_of answer name)

-- what a client says with a piece, by how it speaks: one thing, and how many bytes of the piece that took
abbrev pub Hears : Sending → ℕ × Option Thing → List ℕ → Speech → Speech → List ℕ → List ℕ → Type 0
Hears sending heard piece (Opens before) (Opens next) waiting told = SaysNext heard.1 heard.0 piece before next × (told ≡ waiting)
Hears sending heard piece (Opens reader) (Clamd door) waiting told = ⊥
Hears sending heard piece (Clamd door) (Opens reader) waiting told = ⊥
Hears sending heard piece (Clamd door) (Clamd next) waiting told = SaysOne sending heard.1 heard.0 piece door next waiting told
