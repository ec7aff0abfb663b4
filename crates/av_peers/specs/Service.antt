-- What the scanning service says, and since when it is waited for.
use Rattle.std.specs.Prelude.{ℕ, ◌≡◌, ◌&&◌, ◌⊎◌, Bool, nat_lt, if◌then◌else◌, List, [], ◌++◌, false, true, length, Option, None, Some, Result, Ok, Err, IsErr}
use Rattle.std.specs.Duration.{as_nanos}
use Rattle.std.specs.List.{flat_map}
use Rattle.std.specs.declared.time.Duration.{Duration}
use Rattle.av_base.specs.declared.port.Port.{Port}
use Rattle.av_frame.specs.Feed.{BeginsWithFrame, Fed, front_of}
use Rattle.av_frame.specs.Message.{IsLetter, Letter}
use Rattle.av_frame.specs.Spelling.{frame}
use Rattle.av_frame.specs.declared.message.Body.{Body}
use Rattle.av_frame.specs.declared.message.Body.TheVariants.{Scan, Chunk, NoChunk, Abort, Hello, Read, Reply, Updated}
use Rattle.av_arrival.specs.Place.{start}
use Rattle.av_peers.specs.Line.{unsent}
use Rattle.av_peers.specs.declared.line.Connection.{Connection}
use Rattle.av_peers.specs.declared.service.Claim.{Claim}
use Rattle.av_peers.specs.declared.service.Claim.TheVariants.{Greeting, Newer}
use Rattle.av_peers.specs.declared.service.Gone.{Gone}
use Rattle.av_peers.specs.declared.service.ServicePeer.{ServicePeer}

-- one that came at this moment, and is waited for to greet
abbrev pub came : Connection → Duration → ServicePeer
came line now =
    record {
      line = line;
      feed = record { rest = []; broken = false };
      arriving = record { place = start; since = Some now };
      version = 0;
      asked = record { running = []; since = None };
      greeting = None;
      is_sending = false;
    }

-- it may be read on: fewer than 2,097,152 bytes wait for it
abbrev pub goes_on : ServicePeer → Bool
goes_on s = s.line.may_read && nat_lt (length (unsent s.line)) 2_097_152

-- the earlier of two moments
abbrev pub earlier : Duration → Duration → Duration
earlier a b = if nat_lt (as_nanos b) (as_nanos a) then b else a

-- the earlier of two moments that there may be
abbrev pub first_since : Option Duration → Option Duration → Option Duration
first_since (Some a) (Some b) = Some (earlier a b)
first_since (Some a) None = Some a
first_since None other = other

-- since when it is waited for: to take what it is sent, or to send a frame
abbrev pub waited_since : ServicePeer → Option Duration
waited_since s = first_since s.line.since s.arriving.since

-- nothing more can be taken off: a fault was met, or there is one in front, or memory was refused for the message whose frame is
abbrev pub IsBroken : Fed → Type 0
IsBroken old = (old.broken ≡ true) ⊎ (IsErr (front_of old.rest) ⊎ BeginsWithFrame old.rest)

-- a message is the one whose frame came first; none is given as long as no frame is whole
abbrev pub GivesMessage : Fed → Fed → Result (Option Letter) Gone → Type 0
GivesMessage old new (Ok (Some m)) = IsLetter m × (old.rest ≡ frame m ++ new.rest)
GivesMessage old new (Ok None) = (front_of old.rest ≡ Ok None) × (new ≡ old)
GivesMessage old new (Err gone) = IsBroken old

-- the frame of a greeting that was read and not passed on
abbrev pub kept_frame : Option Letter → List ℕ
kept_frame None = []
kept_frame (Some m) = frame m

-- what came of a service and was not passed on: its greeting, and what is in its feed
abbrev pub unheard : ServicePeer → List ℕ
unheard s = kept_frame s.greeting ++ s.feed.rest

-- more came, behind what had come, and nothing was passed on
abbrev pub HearsMore : ServicePeer → ServicePeer → Type 0
HearsMore old new = (bytes : List ℕ) × (unheard new ≡ unheard old ++ bytes)

-- a greeting came now, at this port, and is kept; or none did
abbrev pub IsGreetedAt : ServicePeer → ServicePeer → Option Port → Type 0
IsGreetedAt old new None = new.greeting ≡ old.greeting
IsGreetedAt old new (Some port) = (old.greeting ≡ None) × ((m : Letter) × (new.greeting ≡ Some m) × (port ≡ m.port))

-- bytes begin with the frames of these messages
abbrev pub SaysFirst : List Letter → List ℕ → Type 0
SaysFirst messages bytes = (more : List ℕ) × (bytes ≡ flat_map frame messages ++ more)

-- these messages were taken off, and no whole frame is left
abbrev pub LeavesOff : ServicePeer → ServicePeer → List Letter → Type 0
LeavesOff old new messages = (unheard old ≡ flat_map frame messages ++ unheard new) × (front_of new.feed.rest ≡ Ok None)

-- what is said of the version of a set: a greeting and news of a newer set name it
abbrev pub claimed : Body → Option Claim
claimed (Hello volume version) = Some (Greeting version)
claimed (Scan id stream generation length) = None
claimed (Chunk id offset bytes) = None
claimed (NoChunk id offset cause) = None
claimed (Abort id) = None
claimed (Read id offset count) = None
claimed (Reply id outcome) = None
claimed (Updated version) = Some (Newer version)

-- the version that is named
abbrev pub named : Claim → ℕ
named (Greeting version) = version
named (Newer version) = version

-- the version that it named last is below the floor
abbrev pub is_outdated : ℕ → ServicePeer → Bool
is_outdated floor s = nat_lt s.version floor
