-- What an event of a world asks for.
use Rattle.std.specs.Prelude.{ℕ, ◌≡◌, List, Option, None, Some, Result, Ok, Err}
use Rattle.std.specs.Option.{option_map}
use Rattle.av_base.specs.declared.port.Port.{Port}
use Rattle.av_frame.specs.Message.{Letter}
use Rattle.av_service.specs.Work.{WorkState}
use Rattle.av_service.specs.Conduct.{ServiceEvent, service_step}
use Rattle.av_sigset.specs.Made.{set_made}
use Rattle.av_store.specs.Rows.{Streams, number_named}
use Rattle.av_world.specs.Serving.{service_refusal}
use Rattle.av_world.specs.Stage.{at_history, line_after}
use Rattle.av_history.specs.World.{Outcome, WorldState, down_frame, filter_event, member, published, service_outcome, step_of, up_frame, work_at, work_event, desk_of}
use Rattle.av_base.specs.Refused.{unless}
use Rattle.av_history.specs.declared.event.Event.{Event}
use Rattle.av_history.specs.declared.fault.StepFault.{StepFault}
use Rattle.av_history.specs.declared.report.Line.TheVariants.{Silent}
use Rattle.av_world.specs.declared.world.request.Request.{Request}
use Rattle.av_world.specs.Serving as serving
use Rattle.av_filter.specs.Asking as asking
use Rattle.av_history.specs.declared.fault.StepFault.TheVariants as fault
use Rattle.av_world.specs.declared.world.request.Request.TheVariants as request

-- an event of the service of a port, where it is not refused
abbrev pub served : WorldState → Event → Port → ServiceEvent → Outcome
served w e port s =
    unless (option_map fault.Connect (service_refusal (desk_of w port) s))
    (service_outcome w e port Silent (service_step (desk_of w port) s))

-- what comes of a request
abbrev pub outcome_of : WorldState → Event → Request → Outcome
outcome_of w e (request.Publish version patterns) = published w e (set_made version patterns.now)
outcome_of w e (request.Filter call) = filter_event w e (line_after call) (asking.event_called call)
outcome_of w e (request.Service port call) = served w e port (serving.event_called w.sets call)
outcome_of w e (request.Down k) = down_frame w e (member w.down k)
outcome_of w e (request.Up k) = up_frame w e (member w.up k)
outcome_of w e (request.Run k) = work_event w e k (work_at w.works k)

-- an event asks for this, or is refused
abbrev pub Asks : List Event → WorldState → Event → Result Request StepFault → Type 0
Asks h s e (Ok r) = step_of (at_history h s) e ≡ outcome_of (at_history h s) e r
Asks h s e (Err f) = step_of (at_history h s) e ≡ Err f

-- the stream of a name
abbrev pub Names : Streams → List ℕ → Result ℕ StepFault → Type 0
Names streams name (Ok s) = number_named name streams ≡ Some s
Names streams name (Err f) = (number_named name streams ≡ None) × (f ≡ fault.NoSuchName)

-- why a message is not delivered, and a work not run
abbrev pub frame_fault : Option Letter → Option StepFault
frame_fault None = Some fault.NoSuchFrame
frame_fault (Some m) = None

-- why a work cannot be run
abbrev pub work_fault : Option (Port × WorkState) → Option StepFault
work_fault None = Some fault.NoSuchWork
work_fault (Some x) = None
