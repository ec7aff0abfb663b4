-- Asks: each is asked in its call or refused, and contents are kept for later asks.
use Rattle.std.specs.Prelude.{◌≡◌, ℕ, ◌+◌, Bool, not, ◌||◌, ◌==◌, nat_lt, nat_le, List, [], ◌∷◌, ◌++◌, length, Option, Some, None, Result, Ok, Err, is_some, true, if◌then◌else◌}
use Rattle.std.specs.Result.{result_err}
use Rattle.av_base.specs.declared.refusal.Refusal.{Refusal}
use Rattle.av_base.specs.declared.refusal.Refusal.TheVariants.{Fault, NoMemory}
use Rattle.av_context.specs.Contexts.{with}
use Rattle.av_filter.specs.Conduct.{Opens}
use Rattle.av_filter.specs.Storing.{stored, stream_with}
use Rattle.av_filter_table.specs.Table.{question_of}
use Rattle.av_guard.specs.declared.fault.AskFault.{AskFault}
use Rattle.av_guard.specs.declared.fault.AskFault.TheVariants.{Busy, Full, NoClient, OpensSpent, TooLarge}
use Rattle.av_guard.specs.declared.given.GuardOut.{GuardOut}
use Rattle.av_guard.specs.Place.{Spot, Held, Missing, Unused, place_from}
use Rattle.av_guard.specs.Class.{class_at, is_busy_with}
use Rattle.av_guard.specs.declared.class.Class.{Class}
use Rattle.av_guard.specs.State.{Gives, State, Turn, happens, rests}
use Rattle.av_guard.specs.Telling.{is_here}
use Rattle.av_store.specs.Rows.{Streams}
use Rattle.av_store.specs.Store.{Store, create_of, greatest}

-- the bytes of all contents
abbrev pub bytes_in : Streams → ℕ
bytes_in [] = 0
bytes_in (s ∷ ss) = length s.1.bytes + bytes_in ss

-- the bytes of all contents of a volume
abbrev pub bytes_kept : Store → ℕ
bytes_kept v = bytes_in v.streams

-- more is kept than is to be, or the volume takes no stream more
abbrev pub is_crowded : State → Bool
is_crowded g = nat_lt g.keep (bytes_kept g.volume) || nat_le g.volume.limits.streams (length g.volume.streams)

-- who waits is known, and the stream is opened for any version
abbrev pub opens : State → ℕ → ℕ → ℕ → Turn
opens g s client tag =
    happens (record g { waiting = with g.waiting (g.volume.opens + 1) (record { client = client; tag = tag; stream = s }) })
    (Opens s 0)

-- a content comes to be kept
abbrev pub kept : State → List ℕ → List ℕ → State
kept g name c = record g { table = (stored g.table g.volume name c).table; volume = (stored g.table g.volume name c).volume }

-- where a content had to be kept, a stream more is there that has it
abbrev pub IsThere : State → List ℕ → Spot → Type 0
IsThere g c (Held s) = Unit {0}
IsThere g c (Unused name) =
    (result_err (create_of g.volume name) ≡ None)
    × ((kept g name c).volume.streams ≡ g.volume.streams ++ (g.volume.last + 1, stream_with name c) ∷ [])
IsThere g c Missing = Unit {0}

-- the number of a stream is spent, and nothing else is changed
abbrev pub spent : State → State
spent g = record g { volume = record g.volume { last = g.volume.last + 1 } }

-- a content is asked about, which is in this place of the volume
abbrev pub asked : State → ℕ → ℕ → List ℕ → Spot → Turn
asked g client tag c (Held s) = opens g s client tag
asked g client tag c (Unused name) = opens (kept g name c) (g.volume.last + 1) client tag
asked g client tag c Missing = rests g

-- the place of a content
abbrev pub place_of : State → List ℕ → Spot
place_of g c = place_from 16 0 g.key g.volume c

-- what is known of a content
abbrev pub class_of : State → List ℕ → Class
class_of g c = class_at g (place_of g c)

-- a question runs about a content that is kept
pub record HasQuestion (g : State) (c : List ℕ) : Type 0 where
  pub stream : ℕ
  pub held : place_of g c ≡ Held stream
  pub runs : is_some (question_of stream g.table.questions) ≡ true

-- an ask of it can't be taken now
abbrev pub is_busy : State → List ℕ → Bool
is_busy g c = is_busy_with g (class_of g c)

-- why a content can't be kept at this place
abbrev pub place_fault : State → Spot → Option AskFault
place_fault g (Held s) = None
place_fault g (Unused name) = if is_some (result_err (create_of g.volume name)) then Some Full else None
place_fault g Missing = Some Full

-- why it can't be asked about now
abbrev pub ask_fault : State → List ℕ → Option AskFault
ask_fault g c = if g.volume.opens == greatest then Some OpensSpent else place_fault g (place_of g c)

-- What is left where memory was refused: nothing was told, no open was taken, and who waits is as before. A stream's
-- number may be spent, or the content may be kept, which nobody waits for.
pub data IsRefused (old new : State) (c : List ℕ) : Type 0 where
  Same : new ≡ old → IsRefused old new c
  Spent : (name : List ℕ) → place_of old c ≡ Unused name → result_err (create_of old.volume name) ≡ None → new ≡ spent old
      → IsRefused old new c
  Kept : (name : List ℕ) → place_of old c ≡ Unused name → IsThere old c (Unused name) → new ≡ kept old name c
      → IsRefused old new c

-- a content was asked about
abbrev pub AskedNow : State → State → ℕ → ℕ → List ℕ → Result GuardOut (Refusal AskFault) → Type 0
AskedNow old new client tag c (Ok given) =
    (ask_fault old c ≡ None) × IsThere old c (place_of old c) × Gives given new (asked old client tag c (place_of old c))
AskedNow old new client tag c (Err (Fault f)) = (ask_fault old c ≡ Some f) × (new ≡ old)
AskedNow old new client tag c (Err NoMemory) = IsRefused old new c

-- why an ask is refused, the first reason
abbrev pub refusal_of : State → ℕ → List ℕ → Option AskFault
refusal_of g client c =
    if not (is_here g.clients client) then Some NoClient
    else (if nat_lt 1048576 (length c) then Some TooLarge
    else (if is_busy g c then Some Busy
    else ask_fault g c))

-- nothing is given out
pub record GivesNothing (given : GuardOut) : Type 0 where
  pub told : given.told.items ≡ []
  pub messages : given.messages.items ≡ []

-- an ask that is not refused is asked in that call
abbrev pub Takes : State → State → GuardOut → ℕ → ℕ → List ℕ → Type 0
Takes old new given client tag c = IsThere old c (place_of old c) × Gives given new (asked old client tag c (place_of old c))

-- an ask that is refused
abbrev pub Refuses : State → State → ℕ → List ℕ → Refusal AskFault → Type 0
Refuses old new client c (Fault f) = (refusal_of old client c ≡ Some f) × (new ≡ old)
Refuses old new client c NoMemory = IsRefused old new c
