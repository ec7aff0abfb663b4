-- An audit as it is kept, and what each event adds to it.
use Rattle.std.specs.Prelude.{◌≡◌, ℕ, ◌≤◌, ◌++◌, ◌∷◌, [], List, length, drop, nat_le, Option, None, Some, Result, Ok, Err, if◌then◌else◌}
use Rattle.std.specs.List.{flat_map}
use Rattle.av_base.specs.declared.limits.LimitValues.{LimitValues}
use Rattle.av_base.specs.declared.mode.Mode.{Mode}
use Rattle.av_base.specs.declared.port.Port.{Port}
use Rattle.av_filter.specs.Audit.{FilterEntry, IsFilterAudit, filter_end}
use Rattle.av_filter.specs.Conduct.{FilterEvent, filter_refusal, filter_step}
use Rattle.av_filter.specs.Mount.{Mount}
use Rattle.av_filter.specs.Reaction.{Reaction}
use Rattle.av_filter.specs.declared.fault.FilterFault.{FilterFault}
use Rattle.av_filter_table.specs.Table.{Table, mounted}
use Rattle.av_frame.specs.Message.{Letter}
use Rattle.av_gate.specs.PortCounts.{count_at, counts_of, letters_at, no_counts, with_count}
use Rattle.av_gate.specs.declared.fault.GateFault.{GateFault}
use Rattle.av_gate.specs.declared.fault.GateFault.TheVariants.{AuditFull, Filter}
use Rattle.av_gate.specs.declared.port_counts.PortCounts.{PortCounts}
use Rattle.av_gate.specs.declared.settled.Settled.{Settled}
use Rattle.av_store.specs.Rows.{number_named}
use Rattle.av_store.specs.Store.{Store}

-- the volume as the mount left it, mode and limits, the events, and of how many of them the messages of each port were taken out
pub record Book : Type 0 where
  pub start : Store
  pub mode : Mode
  pub limits : LimitValues
  pub events : List FilterEntry
  pub sent : PortCounts

-- no event yet
abbrev pub opening : Store → Mode → LimitValues → Book
opening v mode limits = record { start = v; mode = mode; limits = limits; events = []; sent = no_counts }

-- the filter just mounted
abbrev pub table_at_first : Book → Table
table_at_first b = mounted b.mode b.limits b.start.boot

-- where the audit leads
abbrev pub state_of : Book → Mount
state_of b = filter_end (table_at_first b) b.start b.events

-- what the filter does at an event
abbrev pub reaction_to : Book → FilterEvent → Reaction
reaction_to b e = filter_step (state_of b).table (state_of b).volume e

-- the entry of an event with what its reaction gave out
abbrev pub replied : FilterEvent → Reaction → FilterEntry
replied e r = record { event = e; answers = r.answers; messages = r.messages; note = r.note }

-- the book after one more event
abbrev pub with_event : Book → FilterEvent → Book
with_event b e = record b { events = b.events ++ replied e (reaction_to b e) ∷ [] }

-- what the caller is told of it: its place in the audit, its note, the floor after it, and how much it gave out at each port
abbrev pub settled : ℕ → Reaction → Settled
settled place r =
    record { place = place; note = r.note; floor = r.table.floor; answers = length r.answers; messages = counts_of r.messages }

-- an event happens unless the filter refuses it
abbrev pub unless_refused : Book → FilterEvent → Option FilterFault → Result (Settled × Book) GateFault
unless_refused b e (Some f) = Err (Filter f)
unless_refused b e None = Ok (settled (length b.events) (reaction_to b e), with_event b e)

-- an event is refused by a full audit first and then by the filter, and else happens
abbrev pub happens : Book → FilterEvent → Result (Settled × Book) GateFault
happens b e =
    if nat_le b.limits.audit (length b.events) then Err AuditFull
    else unless_refused b e (filter_refusal (state_of b).table (state_of b).volume e)

-- the same of an answer with a ticket beside it
abbrev pub settled_of : {T E : Type 0} → Result (T × Settled) E → Result Settled E
settled_of (Ok r) = Ok r.1
settled_of (Err why) = Err why

-- the messages of these events
abbrev pub messages_of : List FilterEntry → List Letter
messages_of es = flat_map (λ x. x.messages) es

-- of how many events the messages of a port were taken out
abbrev pub sent_at : Port → Book → ℕ
sent_at port b = count_at port b.sent

-- the messages of a port that were not taken yet
abbrev pub waiting_of : Port → Book → List Letter
waiting_of port b = letters_at port (messages_of (drop (sent_at port b) b.events))

-- the book once the messages of a port were taken out of so many events
abbrev pub taken_to : Port → ℕ → Book → Book
taken_to port count b = record b { sent = with_count port count b.sent }

-- the stream of a name, or 0
abbrev pub number_or_none : Option ℕ → ℕ
number_or_none None = 0
number_or_none (Some s) = s

-- the number of the stream of this name, or one that no stream has
abbrev pub stream_of : Store → List ℕ → ℕ
stream_of v name = number_or_none (number_named name v.streams)

-- table and volume are where the audit leads, and the audit is legal and within its limit
pub record IsKept (b : Book) (t : Table) (v : Store) : Type 0 where
  pub table : t ≡ (state_of b).table
  pub volume : v ≡ (state_of b).volume
  pub legal : IsFilterAudit (table_at_first b) b.start b.events
  pub within : length b.events ≤ b.limits.audit
  pub behind : (port : Port) → sent_at port b ≤ length b.events
