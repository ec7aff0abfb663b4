-- A desk's book: where it was opened, and all that it was asked and gave out since.
use Rattle.std.specs.Prelude.{ℕ, ◌≡◌, ◌≤◌, ◌-◌, true, List, [], ◌∷◌, ◌++◌, drop, length, map, Option, None, Some}
use Rattle.std.specs.List.{flat_map}
use Rattle.std.specs.Option.{option_to_list}
use Rattle.av_base.specs.declared.limits.LimitValues.{LimitValues}
use Rattle.av_base.specs.declared.port.Port.{Port}
use Rattle.av_frame.specs.Message.{Letter}
use Rattle.av_match.specs.Scanning.{Compiled}
use Rattle.av_service.specs.Audit.{Call, IsCatalogue, IsServiceAudit, ServiceEntry, desk_end, respond, sets_after}
use Rattle.av_service.specs.Desk.{Desk, just_started}
use Rattle.av_service.specs.Response.{Response}
use Rattle.av_service.specs.declared.out.ServiceOut.{ServiceOut}
use Rattle.av_sigset.specs.Publication.{Publication, latest_as, publication_of}
use Rattle.av_sigset.specs.Set.{NumberedSet}

-- what a desk keeps under its lock
pub record Book : Type 0 where
  pub volume_number : ℕ
  pub port : Port
  pub limits : LimitValues
  pub sets : List Publication  -- of the catalogue, the newest first
  pub opening : ℕ  -- how many of them were there at first
  pub events : List ServiceEntry  -- the oldest first
  pub sent : ℕ  -- of how many events the messages were taken out

-- what the code keeps, as a book; and one that was just opened
abbrev pub book : ℕ → Port → LimitValues → List NumberedSet → ℕ → List ServiceEntry → ℕ → Book
book number port limits sets opening events sent =
    record {
      volume_number = number;
      port = port;
      limits = limits;
      sets = map publication_of sets;
      opening = opening;
      events = events;
      sent = sent;
    }

-- the book of a desk that just opened over these sets
abbrev pub new_book : ℕ → Port → LimitValues → List Publication → Book
new_book number port limits sets =
    record { volume_number = number; port = port; limits = limits; sets = sets; opening = length sets; events = []; sent = 0 }

-- of these publications the oldest, so many
abbrev pub opened_at : ℕ → List Publication → List Publication
opened_at opening sets = drop (length sets - opening) sets

-- the publications and the service before the first event
abbrev pub opened : Book → List Publication
opened b = opened_at b.opening b.sets

-- the service that a book begins with
abbrev pub first_desk : Book → Desk
first_desk b = just_started b.volume_number b.port b.limits (latest_as (opened b))

-- where the events lead
abbrev pub state_of : Book → Desk
state_of b = desk_end (first_desk b) b.events

-- the publications after all events
abbrev pub sets_end : List Publication → List ServiceEntry → List Publication
sets_end sets [] = sets
sets_end sets (x ∷ xs) = sets_end (sets_after sets x.call) xs

-- an event with what it gave out
abbrev pub entry : Call → Response → ServiceEntry
entry call r = record { call = call; messages = r.messages; works = r.works; note = r.note }

-- the same by what the service gave out
abbrev pub given : Call → ServiceOut → ServiceEntry
given call out = record { call = call; messages = out.messages.items; works = option_to_list out.work; note = out.note }

-- the book after one more event
abbrev pub with_event : Book → Call → Book
with_event b call = record b { sets = sets_after b.sets call; events = b.events ++ entry call (respond (state_of b) call) ∷ [] }

-- the messages that these events sent, and those that wait to be taken out
abbrev pub messages_of : List ServiceEntry → List Letter
messages_of xs = flat_map (λ x. x.messages) xs

-- the messages that were not taken yet
abbrev pub waiting_of : Book → List Letter
waiting_of b = messages_of (drop b.sent b.events)

-- what an automaton of a publication is built of
abbrev pub compiled : Publication → Compiled
compiled p = record { version = p.version; patterns = p.patterns }

-- the automaton of the newest set, if one was published
abbrev pub IsBuilt : List Publication → Option Compiled → Type 0
IsBuilt [] a = a ≡ None
IsBuilt (p ∷ ps) a = a ≡ Some (compiled p)

-- The service is where the audit leads, under the version published last; the audit is legal from its opening, and led the
-- catalogue to its sets; it is no longer than its limit; and messages were taken out of events that it has.
pub record IsKept (b : Book) (desk : Desk) : Type 0 where
  pub leads : desk ≡ state_of b
  pub legal : IsServiceAudit (opened b) (first_desk b) b.events
  pub catalogue : IsCatalogue (opened b)
  pub sets : b.sets ≡ sets_end (opened b) b.events
  pub opening : b.opening ≤ length b.sets
  pub version : desk.version ≡ latest_as b.sets
  pub versioned : desk.connected ≡ true → 1 ≤ desk.version
  pub within : length b.events ≤ b.limits.audit
  pub behind : b.sent ≤ length b.events
