-- What a world asks of its service.
use Rattle.std.specs.Prelude.{ℕ, ◌≡◌, ◌≤◌, ◌+◌, ◌∷◌, ◌++◌, length, map, List, Option, None, Some, Ok}
use Rattle.av_base.specs.declared.port.Port.{Port}
use Rattle.av_service.specs.Call.{Responds}
use Rattle.av_service.specs.Conduct.{ServiceEvent, Connects, Disconnects, Finishes, Publishes, Receives, Restarts, connect_refusal, service_step}
use Rattle.av_service.specs.Desk.{Desk}
use Rattle.av_frame.specs.Message.{Letter}
use Rattle.av_service.specs.Work.{WorkState}
use Rattle.av_service.specs.declared.fault.ConnectFault.{ConnectFault}
use Rattle.av_service.specs.declared.out.ServiceOut.{ServiceOut}
use Rattle.av_sigset.specs.Catalogue.{latest}
use Rattle.av_sigset.specs.Set.{NumberedSet}
use Rattle.av_world.specs.Stage.{at_history}
use Rattle.av_history.specs.World.{WorldState, desk_of, lent_at, service_event}
use Rattle.av_history.specs.declared.event.Event.{Event}
use Rattle.av_history.specs.declared.report.Line.TheVariants.{Silent}
use Rattle.av_history.specs.declared.report.EventNote.{EventNote}
use Rattle.av_history.specs.declared.report.EventNote.TheVariants as note
use Rattle.av_history.specs.declared.report.Report.{Report}
use Rattle.av_world.specs.declared.world.serving.ServiceCall.{ServiceCall}
use Rattle.av_world.specs.declared.world.serving.ServiceCall.TheVariants as call

-- the event of the service that a call is
abbrev pub event_called : List NumberedSet → ServiceCall → ServiceEvent
event_called sets call.Connect = Connects
event_called sets (call.Receive m) = Receives m.now
event_called sets call.Disconnect = Disconnects
event_called sets call.Restart = Restarts (latest sets)

-- why the service refuses an event
abbrev pub service_refusal : Desk → ServiceEvent → Option ConnectFault
service_refusal d Connects = connect_refusal d
service_refusal d Disconnects = None
service_refusal d (Receives m) = None
service_refusal d (Finishes lease scan hit) = None
service_refusal d (Publishes version) = None
service_refusal d (Restarts version) = None

-- the service responded as it is to, or nothing has changed
abbrev pub Serves : Desk → Desk → ServiceEvent → Option ServiceOut → Type 0
Serves d d' s None = d' ≡ d
Serves d d' s (Some out) = (service_refusal d s ≡ None) × Responds out d' (service_step d s)

-- one message at most for each of n jobs, and one more
abbrev pub IsSmallResponse : ℕ → ServiceOut → Type 0
IsSmallResponse n out = length out.messages.items ≤ n + 1

-- works, each with the port that lent it, or none where it came back
abbrev pub Works : Type 0
Works = List (Option (Port × WorkState))

-- the event of the service of a port has happened, and what it gave out stands behind what was there; or nothing has changed
abbrev pub Served : Port → Desk → List Letter → Works → Desk → List Letter → Works → ServiceEvent → Option EventNote → Type 0
Served port d up works d' up' works' s None = (d' ≡ d) × (up' ≡ up) × (works' ≡ works)
Served port d up works d' up' works' s (Some n) =
    (service_refusal d s ≡ None) × (d' ≡ (service_step d s).desk) × (up' ≡ up ++ (service_step d s).messages)
    × (works' ≡ works ++ map (lent_at port) (service_step d s).works) × (n ≡ note.Service (service_step d s).note)

-- where a report is given the event of the service of a port has happened, behind this history; else nothing has changed
abbrev pub TakesServed : WorldState → WorldState → List Event → Event → Port → ServiceEvent → Option Report → Type 0
TakesServed old new h e port s None = new ≡ old
TakesServed old new h e port s (Some report) =
    (service_refusal (desk_of old port) s ≡ None) × (service_event (at_history h old) e port Silent s ≡ Ok (report, at_history (e ∷ h) new))
