-- A world: its history, one volume, the published sets, a filter, a service on each of its ports, and each message that they
-- ever sent.
use Rattle.std.specs.Prelude.{ℕ, zero, suc, pred, ◌≡◌, ◌⊎◌, List, [], ◌∷◌, ◌++◌, length, map, slice_get, slice_set, Option, None, Some, unwrap_or, Result, Ok, Err, IsOk}
use Rattle.std.specs.Option.{option_map}
use Rattle.av_base.specs.declared.limits.LimitValues.{LimitValues}
use Rattle.av_base.specs.declared.mode.Mode.{Mode}
use Rattle.av_base.specs.declared.port.Port.{Port}
use Rattle.av_base.specs.declared.port.Port.TheVariants.{One, Two}
use Rattle.av_base.specs.declared.refusal.Refused.{Refused}
use Rattle.av_filter.specs.Conduct.{FilterEvent, Opens, Changes, CleansUp, TimesOut, filter_refusal, filter_step}
use Rattle.av_filter.specs.Conduct as filter
use Rattle.av_filter.specs.Reaction.{Reaction}
use Rattle.av_filter_table.specs.Table.{Table, mounted}
use Rattle.av_filter.specs.declared.fault.FilterFault.{FilterFault}
use Rattle.av_filter.specs.declared.fault.FilterFault.TheVariants as filter_fault
use Rattle.av_frame.specs.Message.{Letter}
use Rattle.av_match.specs.Scanning.{ScanState, fitting, scanner}
use Rattle.av_pend.specs.declared.answer.Answer.{Answer}
use Rattle.av_service.specs.Conduct.{ServiceEvent, Finishes, connect_refusal, service_step}
use Rattle.av_service.specs.Conduct as service
use Rattle.av_service.specs.Desk.{Desk, just_started}
use Rattle.av_service.specs.Response.{Response}
use Rattle.av_service.specs.declared.fault.ConnectFault.{ConnectFault}
use Rattle.av_service.specs.Work.{WorkState}
use Rattle.av_service.specs.declared.note.ServiceNote.TheVariants.{Quiet}
use Rattle.av_sigset.specs.Catalogue.{latest, may_publish}
use Rattle.av_sigset.specs.Made.{set_made}
use Rattle.av_sigset.specs.Publication.{Publication, publication_of, published_as}
use Rattle.av_sigset.specs.Set.{NumberedSet}
use Rattle.av_sigset.specs.declared.fault.CatalogueFault.{CatalogueFault}
use Rattle.av_sigset.specs.declared.fault.SetFault.{SetFault}
use Rattle.av_sigset.specs.declared.signature.Pattern.{Pattern}
use Rattle.av_store.specs.Files as change
use Rattle.av_store.specs.Rows.{stream_at, number_named}
use Rattle.av_store.specs.Store.{Store, empty_store}
use Rattle.av_store.specs.declared.stream.Stream.{Stream}
use Rattle.av_history.specs.declared.event.Event.{Event}
use Rattle.av_history.specs.declared.event.Event.TheVariants.{Publish, Create, Write, Cut, Remove, Open, Cleanup, Down, Up, Run, Timeout, Connect, DisconnectFilter, DisconnectService, RestartFilter, RestartService}
use Rattle.av_history.specs.declared.fault.StepFault.{StepFault}
use Rattle.av_history.specs.declared.fault.StepFault.TheVariants as fault
use Rattle.av_history.specs.declared.given.Given.{Given}
use Rattle.av_history.specs.declared.report.Line.{Line}
use Rattle.av_history.specs.declared.report.Line.TheVariants.{Silent, Published, Created, Changed, Removed, Booted}
use Rattle.av_history.specs.declared.report.EventNote.{EventNote}
use Rattle.av_history.specs.declared.report.EventNote.TheVariants as note
use Rattle.av_history.specs.declared.report.Places.{Places}
use Rattle.av_history.specs.declared.report.Report.{Report}
use Rattle.av_base.specs.Refused.{unless, IsRefusal}

-- one of two, by the port
abbrev pub at_port : {A : Type 0} → Port → A → A → A
at_port One one two = one
at_port Two one two = two

-- a world: the three cores, the messages under way, the works that are lent, the answers, and the events that led here
pub record WorldState : Type 0 where
  pub history : List Event  -- the accepted events, the newest first
  pub volume : Store
  pub sets : List NumberedSet  -- the published sets, the newest first
  pub table : Table
  pub one : Desk  -- the service of port One
  pub two : Desk  -- and of port Two
  pub down : List Letter  -- each message that was ever sent to a service, the oldest first
  pub up : List Letter  -- and to the filter
  pub works : List (Option (Port × WorkState))  -- each piece of work with the port that lent it, or none where it came back
  pub answers : List Given

-- the service of a port
abbrev pub desk_of : WorldState → Port → Desk
desk_of w port = at_port port w.one w.two

-- another in its place
abbrev pub with_desk : WorldState → Port → Desk → WorldState
with_desk w port d = record w { one = at_port port d w.one; two = at_port port w.two d }

-- at the start the volume is empty, and a filter was mounted on it; both services were started, with no set
abbrev pub start : ℕ → Mode → LimitValues → WorldState
start number mode limits =
    record {
      history = [];
      volume = record (empty_store number limits) { boot = 1 };
      sets = [];
      table = mounted mode limits 1;
      one = just_started number One limits 0;
      two = just_started number Two limits 0;
      down = [];
      up = [];
      works = [];
      answers = [];
    }

-- ---- what a step tells

-- how long the lists of a world are
abbrev pub places_of : WorldState → Places
places_of w = record { answers = length w.answers; down = length w.down; up = length w.up; works = length w.works }

-- the report of a step from w to w'
abbrev pub report_of : WorldState → WorldState → Line → EventNote → Report
report_of w w' line note = record { line = line; before = places_of w; after = places_of w'; note = note }

-- a stream's new generation and length are told
abbrev pub change_line : ℕ → Option Stream → Line
change_line id None = Changed id 0 0
change_line id (Some s) = Changed id s.generation (length s.bytes)

-- ---- one event of the filter, and one of the service

-- an answer, with the number of its event
abbrev pub given_at : ℕ → Answer → Given
given_at n a = record { event = n; answer = a }

-- a world after a reaction of the filter
abbrev pub reacted : WorldState → Event → Reaction → WorldState
reacted w e r =
    record w {
      history = e ∷ w.history;
      volume = r.volume;
      table = r.table;
      down = w.down ++ r.messages;
      answers = w.answers ++ map (given_at (suc (length w.history))) r.answers;
    }

-- a piece of work that the service of a port lent
abbrev pub lent_at : Port → WorkState → Option (Port × WorkState)
lent_at port k = Some (port, k)

-- what the service of a port gave out
abbrev pub heard : WorldState → Port → Response → WorldState
heard w port r =
    let next = with_desk w port r.desk in
    record next { up = w.up ++ r.messages; works = w.works ++ map (lent_at port) r.works }

-- a world after a response of the service of a port
abbrev pub responded : WorldState → Event → Port → Response → WorldState
responded w e port r = let next = heard w port r in record next { history = e ∷ w.history }

-- an answer of a step: its report, and the world after it
abbrev pub Outcome : Type 0
Outcome = Result (Report × WorldState) StepFault

-- a fault of the filter, as an event's
abbrev pub step_fault : FilterFault → StepFault
step_fault (filter_fault.Store f) = fault.Store f
step_fault filter_fault.OpensSpent = fault.OpensSpent
step_fault filter_fault.BootSpent = fault.BootSpent

-- the report of a reaction, and the world after it
abbrev pub filter_outcome : WorldState → Event → (Store → Line) → Reaction → Report × WorldState
filter_outcome w e line r = (report_of w (reacted w e r) (line r.volume) (note.Filter r.note), reacted w e r)

-- an event of the filter: refused, or its report and the world after it
abbrev pub filter_event : WorldState → Event → (Store → Line) → FilterEvent → Outcome
filter_event w e line f =
    unless (option_map step_fault (filter_refusal w.table w.volume f))
    (filter_outcome w e line (filter_step w.table w.volume f))

-- the report of a response, and the world after it
abbrev pub service_outcome : WorldState → Event → Port → Line → Response → Report × WorldState
service_outcome w e port line r = (report_of w (responded w e port r) line (note.Service r.note), responded w e port r)

-- an event of the service of a port, and the world after it
abbrev pub service_event : WorldState → Event → Port → Line → ServiceEvent → Outcome
service_event w e port line s = Ok (service_outcome w e port line (service_step (desk_of w port) s))

-- nothing of the volume is told
abbrev pub no_line : Store → Line
no_line v = Silent

-- ---- events by name

-- an event of the stream that a name names
abbrev pub named_event : WorldState → Event → (ℕ → Store → Line) → (ℕ → FilterEvent) → Option ℕ → Outcome
named_event w e line f None = Err fault.NoSuchName
named_event w e line f (Some s) = filter_event w e (line s) (f s)

-- the line of a stream that was changed, by its number
abbrev pub changed_line : ℕ → Store → Line
changed_line s v = change_line s (stream_at s v.streams)

-- ---- messages and work by place

-- the member of a list that counts from 1
abbrev pub member : {A : Type 0} → List A → ℕ → Option A
member xs zero = None
member xs (suc k) = slice_get xs k

-- a message from the filter comes to the service of its port, if there is one
abbrev pub down_frame : WorldState → Event → Option Letter → Outcome
down_frame w e None = Err fault.NoSuchFrame
down_frame w e (Some m) = service_event w e m.port Silent (service.Receives m)

-- a message from a service comes to the filter, if there is one
abbrev pub up_frame : WorldState → Event → Option Letter → Outcome
up_frame w e None = Err fault.NoSuchFrame
up_frame w e (Some m) = filter_event w e no_line (filter.Receives m)

-- what stands at a place, if the place is there and not empty
abbrev pub if_there : {A : Type 0} → Option (Option A) → Option A
if_there None = None
if_there (Some o) = o

-- the work at a place, where it did not come back
abbrev pub work_at : List (Option (Port × WorkState)) → ℕ → Option (Port × WorkState)
work_at works k = if_there (member works k)

-- these patterns, or none
abbrev pub or_none : Option (List Pattern) → List Pattern
or_none None = []
or_none (Some ps) = ps

-- what the run of a work makes of its scan, with the bytes for which there is room, and the work done
abbrev pub scan_after : List Publication → WorkState → ScanState
scan_after sets k = scanner.run (or_none (published_as sets k.version)) k.scan (fitting k.scan k.chunk)

-- the service gets a work back, with its scan after the run
abbrev pub done : List Publication → WorkState → ServiceEvent
done sets k = Finishes k.lease (scan_after sets k) (scanner.hit (scan_after sets k))

-- a work is run and finished, once
abbrev pub back_at : WorldState → ℕ → WorldState
back_at w k = record w { works = slice_set w.works (pred k) None }

-- a work is run, if it is there, and comes back to the service that lent it
abbrev pub work_event : WorldState → Event → ℕ → Option (Port × WorkState) → Outcome
work_event w e k None = Err fault.NoSuchWork
work_event w e k (Some x) = service_event (back_at w k) e x.0 Silent (done (map publication_of w.sets) x.1)

-- ---- publications and connections

-- a world with one set more, the newest first
abbrev pub with_set : WorldState → NumberedSet → WorldState
with_set w s = record w { sets = s ∷ w.sets }

-- both services hear of a version, the one of port One first
abbrev pub all_told : WorldState → ℕ → WorldState
all_told w version =
    heard (heard w One (service_step w.one (service.Publishes version))) Two (service_step w.two (service.Publishes version))

-- a world after a publication
abbrev pub after_set : WorldState → Event → NumberedSet → WorldState
after_set w e s = let next = all_told (with_set w s) s.version in record next { history = e ∷ w.history }

-- a set joins the catalogue, and both services hear of its version
abbrev pub added : WorldState → Event → NumberedSet → Result (Unit {0}) CatalogueFault → Outcome
added w e s (Ok free) =
    Ok (report_of w (after_set w e s) (Published s.version (length s.signatures)) (note.Service Quiet), after_set w e s)
added w e s (Err f) = Err (fault.Catalogue f)

-- a set is judged by itself before its version is
abbrev pub published : WorldState → Event → Result NumberedSet SetFault → Outcome
published w e (Ok s) = added w e s (may_publish w.sets s.version)
published w e (Err f) = Err fault.BadSet

-- the service of a port connects, unless it may not
abbrev pub connected : WorldState → Event → Port → Option ConnectFault → Outcome
connected w e port None = service_event w e port Silent service.Connects
connected w e port (Some f) = Err (fault.Connect f)

-- ---- steps

-- what an event does, or why it is refused
unfoldable pub step_of : WorldState → Event → Outcome
step_of w (Publish version patterns) = published w (Publish version patterns) (set_made version patterns)
step_of w (Create name) = filter_event w (Create name) (λ v. Created v.last) (Changes (change.Create name))
step_of w (Write name offset bytes) =
    named_event w (Write name offset bytes) changed_line (λ s. Changes (change.Write s offset bytes))
    (number_named name w.volume.streams)
step_of w (Cut name n) =
    named_event w (Cut name n) changed_line (λ s. Changes (change.Cut s n)) (number_named name w.volume.streams)
step_of w (Remove name) =
    named_event w (Remove name) (λ s v. Removed s) (λ s. Changes (change.Remove s)) (number_named name w.volume.streams)
step_of w (Open name least) =
    filter_event w (Open name least) no_line (Opens (unwrap_or (number_named name w.volume.streams) 0) least)
step_of w (Cleanup name) = named_event w (Cleanup name) (λ s. no_line) CleansUp (number_named name w.volume.streams)
step_of w (Down k) = down_frame w (Down k) (member w.down k)
step_of w (Up k) = up_frame w (Up k) (member w.up k)
step_of w (Run k) = work_event w (Run k) k (work_at w.works k)
step_of w (Timeout seq) = filter_event w (Timeout seq) no_line (TimesOut seq)
step_of w (Connect port) = connected w (Connect port) port (connect_refusal (desk_of w port))
step_of w (DisconnectFilter port) = filter_event w (DisconnectFilter port) no_line (filter.Disconnects port)
step_of w (DisconnectService port) = service_event w (DisconnectService port) port Silent service.Disconnects
step_of w RestartFilter = filter_event w RestartFilter (λ v. Booted v.boot) filter.Restarts
step_of w (RestartService port) = service_event w (RestartService port) port Silent (service.Restarts (latest w.sets))

-- an accepted event joins the history; a refused one changes nothing
abbrev pub world_or : WorldState → Outcome → WorldState
world_or w (Ok p) = p.1
world_or w (Err f) = w

-- the world after an event, the same where the event is refused
abbrev pub after : WorldState → Event → WorldState
after w e = world_or w (step_of w e)

-- the world that a history leads to, the newest event first
abbrev pub world_of : WorldState → List Event → WorldState
world_of w [] = w
world_of w (e ∷ es) = after (world_of w es) e

-- Which histories a list of events can lead to from a world, both with the newest first. An event that is refused by
-- name is in no history; any other is, but where memory refused its step.
pub data Gives (w : WorldState) : List Event → List Event → Type 0 where
  nothing : Gives w [] []
  accepted : (es hs : List Event) (e : Event) → Gives w es hs → IsOk (step_of (world_of w hs) e) → Gives w (e ∷ es) (e ∷ hs)
  refused_by_name : (es hs : List Event) (e : Event) (f : StepFault) → Gives w es hs → step_of (world_of w hs) e ≡ Err f
      → Gives w (e ∷ es) hs
  without_memory : (es hs : List Event) (e : Event) → Gives w es hs → IsOk (step_of (world_of w hs) e) → Gives w (e ∷ es) hs

-- a step goes on to the next world; where it is refused the world stays and the event is handed back
abbrev pub Steps : WorldState → WorldState → Event → Result Report (Refused Event StepFault) → Type 0
Steps old new event (Ok report) = step_of old event ≡ Ok (report, new)
Steps old new event (Err refused) = IsRefusal refused.why (step_of old event) × (new ≡ old) × (refused.value ≡ event)

-- an event that may happen does, and joins the history, but where memory refuses its step; a refused one is passed over
abbrev pub Passes : WorldState → WorldState → Event → Type 0
Passes old new event = (new ≡ old) ⊎ (IsOk (step_of old event) × (new ≡ after old event) × (new.history ≡ event ∷ old.history))
