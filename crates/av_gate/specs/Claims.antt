-- That the calls of a gate's seats are the events of its audit, and that receipts stand in it.
use Rattle.std.specs.Prelude.{◌≡◌, ℕ, ◌+◌, ◌≤◌, ◌<◌, ◌==◌, Bool, true, false, List, [], ◌∷◌, length, Some, slice_get}
use Rattle.std.specs.List.{All, count_by, sum_by, filter}
use Rattle.av_ends.specs.declared.ticket.Receipt.{Receipt}
use Rattle.av_filter.specs.Audit.{FilterEntry, IsFilterAudit, answers_given, filter_end}
use Rattle.av_filter.specs.Mount.{Mount}
use Rattle.av_filter_table.specs.Table.{Table, mounted}
use Rattle.av_gate.specs.Calls.{event_called}
use Rattle.av_gate.specs.declared.audit.Audit.{Audit}
use Rattle.av_gate.specs.declared.seat.Seat.{Seat}
use Rattle.av_gate.specs.declared.seat.SeatCall.{SeatCall}
use Rattle.av_pend.specs.Pend.{open_of}
use Rattle.av_pend.specs.declared.answer.Answer.{Answer}
use Rattle.av_store.specs.Store.{Store}

-- the event at the call's place is the call, with the call's note
abbrev pub Matches : Store → List FilterEntry → SeatCall → Type 0
Matches v events c =
    (x : FilterEntry) × (slice_get events c.place ≡ Some x) × (x.event ≡ event_called v c.call) × (x.note ≡ c.note)

-- the calls' places rise, none below low, and each event there is the call
abbrev pub RisesFrom : Store → ℕ → List SeatCall → List FilterEntry → Type 0
RisesFrom v low [] events = Unit {0}
RisesFrom v low (c ∷ cs) events = (low ≤ c.place) × Matches v events c × RisesFrom v (c.place + 1) cs events

-- the same of a seat's calls, from the first place on
pub record Rises (v : Store) (events : List FilterEntry) (s : Seat) : Type 0 where
  pub from_first : RisesFrom v 0 s.calls.items events

-- the places alone
abbrev pub PlacesRise : ℕ → List SeatCall → Type 0
PlacesRise low [] = Unit {0}
PlacesRise low (c ∷ cs) = (low ≤ c.place) × PlacesRise (c.place + 1) cs

-- the calls of a seat stand in the order of their places
pub record InOrder (s : Seat) : Type 0 where
  pub places : PlacesRise 0 s.calls.items

-- how many of a seat's calls have this place, and how many of all seats'
abbrev pub times_in : ℕ → Seat → ℕ
times_in place s = count_by (λ c. c.place == place) s.calls.items

-- how often the seats claim a place
abbrev pub times : ℕ → List Seat → ℕ
times place seats = sum_by (times_in place) seats

-- the seats' calls are the events, each once, and in each seat's order
pub record AreCallsOf (seats : List Seat) (v : Store) (events : List FilterEntry) : Type 0 where
  pub rise : All (Rises v events) seats
  pub each_once : (place : ℕ) → place < length events → times place seats ≡ 1

-- the answers to one open
abbrev pub answers_to : ℕ → List FilterEntry → List Answer
answers_to open_id events = filter (λ a. open_of a == open_id) (answers_given events)

-- the receipt's answer is its open's one answer
abbrev pub Stands : List FilterEntry → Receipt → Type 0
Stands events r = answers_to r.open_id events ≡ r.answer ∷ []

-- an audit begins with a filter just mounted, and is legal; where it leads
abbrev pub table_of : Audit → Table
table_of a = mounted a.mode a.limits a.volume.boot

-- what the audit has is a history of the filter
abbrev pub IsLegal : Audit → Type 0
IsLegal a = IsFilterAudit (table_of a) a.volume a.events.items

-- where the audit leads
abbrev pub end_of : Audit → Mount
end_of a = filter_end (table_of a) a.volume a.events.items

-- for the tests: 1 where something was seen
abbrev pub digit : Bool → ℕ
digit true = 1
digit false = 0
