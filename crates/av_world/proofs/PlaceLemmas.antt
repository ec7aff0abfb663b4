-- Each service of a world is on its port.
use Rattle.std.proofs.Common.{◌≡◌, ℕ, List, map, refl, ◌∙◌}
use Rattle.av_base.specs.declared.limits.LimitValues.{LimitValues}
use Rattle.av_base.specs.declared.mode.Mode.{Mode}
use Rattle.av_sigset.specs.Publication.{publication_of}
use Rattle.av_service.proofs.PortLemmas.{stays_on_its_port}
use Rattle.av_history.proofs.StepLemmas.{Preserves, after_service, history_keeps}
use Rattle.av_base.specs.declared.port.Port.TheVariants.{One, Two}
use Rattle.av_base.specs.declared.port.Port.{Port}
use Rattle.av_service.specs.Conduct.{ServiceEvent, Publishes, service_step}
use Rattle.av_service.specs.Desk.{Desk}
use Rattle.av_history.specs.declared.event.Event.{Event}
use Rattle.av_history.specs.declared.event.Event.TheVariants.{Run}
use Rattle.av_history.specs.World.{WorldState, back_at, desk_of, done, start, world_of}

-- each service is on its port
stays_there : (d : Desk) (e : ServiceEvent) (port : Port) → d.port ≡ port → (service_step d e).desk.port ≡ port
stays_there d e port at = stays_on_its_port.stays d e ∙ at

pub record AtPorts (w : WorldState) : Type 0 where
  pub one : w.one.port ≡ One
  pub two : w.two.port ≡ Two

steps_at : (w : WorldState) → AtPorts w → (e : Event) (port : Port) (s : ServiceEvent) → AtPorts (after_service w e port s)
steps_at w h e One s = record { one = stays_there w.one s One h.one; two = h.two }
steps_at w h e Two s = record { one = h.one; two = stays_there w.two s Two h.two }

pub at_keeps : (w : WorldState) → AtPorts w → Preserves (λ e. AtPorts) w
at_keeps w h = record {
  filter = λ e f is ok. record { one = h.one; two = h.two };
  service = λ e port s is. steps_at w h e port s;
  publish = λ v ps s ok. record { one = stays_there w.one (Publishes s.version) One h.one; two = stays_there w.two (Publishes s.version) Two h.two };
  work = λ k x at. steps_at (back_at w k) (record { one = h.one; two = h.two }) (Run k) x.0 (done (map publication_of w.sets) x.1);
}

pub at_ports : (number : ℕ) (mode : Mode) (limits : LimitValues) (es : List Event) → AtPorts (world_of (start number mode limits) es)
at_ports number mode limits es = history_keeps AtPorts at_keeps (start number mode limits) (record { one = refl; two = refl }) es

pub by_port : (w : WorldState) → AtPorts w → (port : Port) → (desk_of w port).port ≡ port
by_port w h One = h.one
by_port w h Two = h.two
