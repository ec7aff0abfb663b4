-- Messages that come over a stream of frames.
use Rattle.std.specs.Prelude.{ℕ, ◌≡◌, ◌+◌, ◌*◌, ◌<◌, ◌≤◌, ◌⊎◌, true, false, List, [], ◌∷◌, ◌++◌, length, Option, None, Some}
use Rattle.std.specs.Io.KnownBytes.{Consumes, IsAtEnd}
use Rattle.std.specs.List.{flat_map, AllByRecursion}
use Rattle.av_frame.specs.declared.end.End.{End}
use Rattle.av_frame.specs.declared.end.End.TheVariants.{ReadFault, Frame, Closed, Memory}
use Rattle.av_engines.specs.declared.incoming.TheConstants.{PIECE}
use Rattle.av_frame.specs.declared.fault.FrameFault.{FrameFault}
use Rattle.av_frame.specs.Feed.{Fed}
use Rattle.av_frame.specs.Frames.{Ends}
use Rattle.av_frame.specs.Message.{IsLetter, Letter}
use Rattle.av_frame.specs.Spelling.{frame}

-- what came of a stream and was not taken yet: a feed, and bytes that were read and not pushed into it; and how many reads
-- are left
pub record Received : Type 0 where
  pub fed : Fed
  pub waiting : List ℕ
  pub turns : ℕ

-- nothing came yet
abbrev pub nothing_yet : ℕ → Received
nothing_yet turns = record { fed = record { rest = []; broken = false }; waiting = []; turns = turns }

-- the bytes that came and were not taken yet
abbrev pub unread : Received → List ℕ
unread r = r.fed.rest ++ r.waiting

-- These messages were taken off. What was unread and what came from the reader meanwhile, in pieces of at most 8,192 bytes a
-- read, are their frames and what is unread now.
pub record Takes (old new : Received) (before after : Option (List ℕ)) (messages : List Letter) : Type 0 where
  pub bytes : List ℕ
  pub came : Consumes before after bytes
  pub whole : unread old ++ bytes ≡ flat_map frame messages ++ unread new
  pub in_range : AllByRecursion IsLetter messages
  pub few : length bytes + PIECE * new.turns ≤ PIECE * old.turns

-- how the messages end: behind a whole frame that is none of a message; or with no whole frame left, at the end of the input
-- or for a read; or for want of memory
abbrev pub EndsAs : End → Received → Option (List ℕ) → Type 0
EndsAs Frame r after = (f : FrameFault) × Ends (unread r) (Some f)
EndsAs Closed r after = Ends (unread r) None × IsAtEnd after
EndsAs ReadFault r after = Ends (unread r) None
EndsAs Memory r after = Unit {0}
EndsAs _ r after = ⊥

-- the end of the input is told by a read alone, and so is a fault of reading, but where no read is left
abbrev pub IsDue : End → ℕ → ℕ → Type 0
IsDue Closed before after = after < before
IsDue ReadFault before after = (before ≡ 0) ⊎ (after < before)
IsDue _ before after = Unit {0}

-- a buffer holds what waits, and nothing waits behind a fault, which stays
pub record IsKept (fed : Fed) (buffer : List ℕ) (waiting : ℕ) : Type 0 where
  pub room : length buffer ≡ PIECE
  pub within : waiting ≤ length buffer
  pub faulty : fed.broken ≡ true → (f : FrameFault) × Ends fed.rest (Some f) × (waiting ≡ 0)

-- more bytes than can come yet and are unread: each message takes some off
abbrev pub budget : Received → ℕ
budget r = length (unread r) + PIECE * r.turns

-- the same and the reads that are left: each message and each read takes some off
abbrev pub to_come : Received → ℕ
to_come r = budget r + r.turns

-- the message that a look gave, if any
abbrev pub listed : Option Letter → List Letter
listed None = []
listed (Some m) = m ∷ []

-- what a look at the front of a stream of which nothing waits leaves: a message is taken off, or no frame is whole
abbrev pub GivesFront : Received → Received → Option Letter → Type 0
GivesFront old new (Some m) = (unread old ≡ frame m ++ unread new) × IsLetter m × (new.turns ≡ old.turns)
GivesFront old new None = (new ≡ old) × (old.fed.broken ≡ false) × Ends (unread old) None

-- the same where it gives nothing
abbrev pub HasNoFront : End → Received → Received → Type 0
HasNoFront Frame old new = (unread new ≡ unread old) × (new.turns ≡ old.turns) × ((f : FrameFault) × Ends (unread new) (Some f))
HasNoFront Memory old new = new ≡ old
HasNoFront _ old new = ⊥

-- what has come of a stream: its next message is taken off, or it is not whole yet
abbrev pub HasArrived : Received → Received → Option Letter → Type 0
HasArrived old new (Some m) = (unread old ≡ frame m ++ unread new) × IsLetter m × (new.turns ≡ old.turns)
HasArrived old new None = (unread new ≡ unread old) × (new.turns ≡ old.turns) × (new.waiting ≡ []) × (new.fed.broken ≡ false)
    × Ends (unread new) None

-- the same where it gives nothing: behind a whole frame that is none of a message, or for want of memory
abbrev pub HasNoneFor : End → Received → Received → Type 0
HasNoneFor Frame old new = (unread new ≡ unread old) × (new.turns ≡ old.turns) × ((f : FrameFault) × Ends (unread new) (Some f))
HasNoneFor Memory old new = (unread new ≡ unread old) × (new.turns ≡ old.turns)
HasNoneFor _ old new = ⊥

-- a read that gave these bytes
pub record Reads (old new : Received) (before after : Option (List ℕ)) : Type 0 where
  pub came : Consumes before after new.waiting
  pub fed : new.fed ≡ old.fed
  pub few : length new.waiting + PIECE * new.turns ≤ PIECE * old.turns

-- a read that gave none: no more is allowed, it failed, or the input is at its end
abbrev pub ReadsNothing : End → Received → Received → Option (List ℕ) → Option (List ℕ) → Type 0
ReadsNothing Closed old new before after = Reads old new before after × (new.waiting ≡ []) × IsAtEnd after
ReadsNothing ReadFault old new before after = Reads old new before after × (new.waiting ≡ [])
ReadsNothing _ old new before after = ⊥
