-- What each event of the filter, each of the service, each publication and each work keeps, every run keeps.
use Rattle.std.proofs.Common.{◌≡◌, ℕ, List, [], ◌∷◌, map, Option, Some, None, Result, Ok, Err, refl, length}
use Rattle.std.specs.Option.{option_map}
use Rattle.av_filter.specs.Conduct.{FilterEvent, Changes, CleansUp, filter_refusal, filter_step}
use Rattle.av_filter.specs.Conduct as filter_events
use Rattle.av_filter.specs.declared.fault.FilterFault.{FilterFault}
use Rattle.av_frame.specs.Message.{Letter}
use Rattle.av_base.specs.declared.port.Port.{Port}
use Rattle.av_service.specs.Conduct.{ServiceEvent, connect_refusal, service_step}
use Rattle.av_service.specs.Conduct as service_events
use Rattle.av_service.specs.declared.fault.ConnectFault.{ConnectFault}
use Rattle.av_service.specs.Work.{WorkState}
use Rattle.av_service.specs.declared.note.ServiceNote.TheVariants.{Quiet}
use Rattle.av_sigset.specs.Catalogue.{latest, may_publish}
use Rattle.av_sigset.specs.Made.{set_made}
use Rattle.av_sigset.specs.Publication.{publication_of}
use Rattle.av_sigset.specs.Set.{NumberedSet}
use Rattle.av_sigset.specs.declared.fault.CatalogueFault.{CatalogueFault}
use Rattle.av_sigset.specs.declared.fault.SetFault.{SetFault}
use Rattle.av_sigset.specs.declared.signature.Pattern.{Pattern}
use Rattle.av_store.specs.Files as change
use Rattle.av_store.specs.Rows.{number_named}
use Rattle.av_store.specs.Store.{Store}
use Rattle.av_history.specs.Cores.{IsFilterEvent, IsServiceEvent, Names}
use Rattle.av_history.specs.Cores as cores
use Rattle.av_history.specs.World.{WorldState, added, after, after_set, back_at, changed_line, connected, desk_of, done, down_frame, filter_event, member, named_event, no_line, published, reacted, responded, step_fault, step_of, up_frame, work_at, work_event, world_of, world_or, Outcome, filter_outcome, report_of, service_outcome}
use Rattle.av_base.specs.Refused.{unless}
use Rattle.av_history.specs.declared.event.Event.{Event}
use Rattle.av_history.specs.declared.event.Event.TheVariants.{Publish, Create, Write, Cut, Remove, Open, Cleanup, Down, Up, Run, Timeout, Connect, DisconnectFilter, DisconnectService, RestartFilter, RestartService}
use Rattle.av_history.specs.declared.report.Line.{Line}
use Rattle.av_history.specs.declared.report.Line.TheVariants.{Created, Removed, Booted, Silent, Published}
use Rattle.av_history.specs.declared.report.EventNote.TheVariants as note
use Rattle.av_history.specs.declared.report.Report.{Report}

abbrev pub after_filter : WorldState → Event → FilterEvent → WorldState
after_filter w e f = reacted w e (filter_step w.table w.volume f)

abbrev pub after_service : WorldState → Event → Port → ServiceEvent → WorldState
after_service w e port s = responded w e port (service_step (desk_of w port) s)

-- a set of these patterns is published
pub record IsPublished (w : WorldState) (v : ℕ) (ps : List Pattern) (s : NumberedSet) : Type 0 where
  pub made : set_made v ps ≡ Ok s
  pub may : may_publish w.sets s.version ≡ Ok tt

-- what each kind of event keeps
pub record Preserves (P : Event → WorldState → Type 0) (w : WorldState) : Type 0 where
  pub filter : (e : Event) (f : FilterEvent) → IsFilterEvent w e f → filter_refusal w.table w.volume f ≡ None → P e (after_filter w e f)
  pub service : (e : Event) (port : Port) (s : ServiceEvent) → IsServiceEvent w e port s → P e (after_service w e port s)
  pub publish : (v : ℕ) (ps : List Pattern) (s : NumberedSet) → IsPublished w v ps s → P (Publish v ps) (after_set w (Publish v ps) s)
  pub work : (k : ℕ) (x : Port × WorkState) → work_at w.works k ≡ Some x → P (Run k) (after_service (back_at w k) (Run k) x.0 (done (map publication_of w.sets) x.1))

-- what each kind of event gives, with its report, where it is not refused
pub record Gives (Q : Event → Report × WorldState → Type 0) (w : WorldState) : Type 0 where
  pub filter : (e : Event) (line : Store → Line) (f : FilterEvent) → IsFilterEvent w e f → filter_refusal w.table w.volume f ≡ None → Q e (filter_outcome w e line (filter_step w.table w.volume f))
  pub service : (e : Event) (port : Port) (line : Line) (s : ServiceEvent) → IsServiceEvent w e port s → Q e (service_outcome w e port line (service_step (desk_of w port) s))
  pub publish : (v : ℕ) (ps : List Pattern) (s : NumberedSet) → IsPublished w v ps s → Q (Publish v ps) (report_of w (after_set w (Publish v ps) s) (Published s.version (length s.signatures)) (note.Service Quiet), after_set w (Publish v ps) s)
  pub work : (k : ℕ) (x : Port × WorkState) (line : Line) → work_at w.works k ≡ Some x → Q (Run k) (service_outcome (back_at w k) (Run k) x.0 line (service_step (desk_of (back_at w k) x.0) (done (map publication_of w.sets) x.1)))

-- so much of an outcome, where it is none that is refused
abbrev pub Unrefused : (Report × WorldState → Type 0) → Outcome → Type 0
Unrefused Q (Ok p) = Q p
Unrefused Q (Err f) = Unit {0}

module _ (Q : Event → Report × WorldState → Type 0) (w : WorldState) (gives : Gives Q w) where
  by_refusal : (e : Event) (o : Option FilterFault) (x : Report × WorldState) → (o ≡ None → Q e x) → Unrefused (Q e) (unless (option_map step_fault o) x)
  by_refusal e None x f = f refl
  by_refusal e (Some why) x f = tt

  by_filter : (e : Event) (line : Store → Line) (f : FilterEvent) → IsFilterEvent w e f → Unrefused (Q e) (filter_event w e line f)
  by_filter e line f is = by_refusal e (filter_refusal w.table w.volume f) _ (gives.filter e line f is)

  by_name : (e : Event) (line : ℕ → Store → Line) (f : ℕ → FilterEvent) (name : List ℕ) (o : Option ℕ) → number_named name w.volume.streams ≡ o → ((s : ℕ) → Names w name s → IsFilterEvent w e (f s)) → Unrefused (Q e) (named_event w e line f o)
  by_name e line f name None at is = tt
  by_name e line f name (Some s) at is = by_filter e (line s) (f s) (is s at)

  by_down : (k : ℕ) (o : Option Letter) → member w.down k ≡ o → Unrefused (Q (Down k)) (down_frame w (Down k) o)
  by_down k None is = tt
  by_down k (Some m) is = gives.service (Down k) m.port Silent (service_events.Receives m) (cores.comes_down k m is)

  by_up : (k : ℕ) (o : Option Letter) → member w.up k ≡ o → Unrefused (Q (Up k)) (up_frame w (Up k) o)
  by_up k None is = tt
  by_up k (Some m) is = by_filter (Up k) no_line (filter_events.Receives m) (cores.comes_up k m is)

  by_work : (k : ℕ) (o : Option (Port × WorkState)) → work_at w.works k ≡ o → Unrefused (Q (Run k)) (work_event w (Run k) k o)
  by_work k None is = tt
  by_work k (Some x) is = gives.work k x Silent is

  by_catalogue : (v : ℕ) (ps : List Pattern) (s : NumberedSet) → set_made v ps ≡ Ok s → (r : Result (Unit {0}) CatalogueFault) → may_publish w.sets s.version ≡ r → Unrefused (Q (Publish v ps)) (added w (Publish v ps) s r)
  by_catalogue v ps s made (Ok free) is = gives.publish v ps s (record { made = made; may = is })
  by_catalogue v ps s made (Err f) is = tt

  by_set : (v : ℕ) (ps : List Pattern) (r : Result NumberedSet SetFault) → set_made v ps ≡ r → Unrefused (Q (Publish v ps)) (published w (Publish v ps) r)
  by_set v ps (Ok s) is = by_catalogue v ps s is (may_publish w.sets s.version) refl
  by_set v ps (Err f) is = tt

  by_connection : (port : Port) (o : Option ConnectFault) → connect_refusal (desk_of w port) ≡ o → Unrefused (Q (Connect port)) (connected w (Connect port) port o)
  by_connection port None is = gives.service (Connect port) port Silent service_events.Connects (cores.connects port is)
  by_connection port (Some f) is = tt

  pub step_gives : (e : Event) → Unrefused (Q e) (step_of w e)
  unfolding step_of
  step_gives (Publish v ps) = by_set v ps (set_made v ps) refl
  step_gives (Create name) = by_filter _ (λ v. Created v.last) _ (cores.creates name)
  step_gives (Write name o b) = by_name _ changed_line (λ s. Changes (change.Write s o b)) name (number_named name w.volume.streams) refl (λ s is. cores.writes name o b s is)
  step_gives (Cut name n) = by_name _ changed_line (λ s. Changes (change.Cut s n)) name (number_named name w.volume.streams) refl (λ s is. cores.cuts name n s is)
  step_gives (Remove name) = by_name _ (λ s v. Removed s) (λ s. Changes (change.Remove s)) name (number_named name w.volume.streams) refl (λ s is. cores.removes name s is)
  step_gives (Open name least) = by_filter _ no_line _ (cores.opens name least)
  step_gives (Cleanup name) = by_name _ (λ s. no_line) CleansUp name (number_named name w.volume.streams) refl (λ s is. cores.cleans name s is)
  step_gives (Down n) = by_down n (member w.down n) refl
  step_gives (Up n) = by_up n (member w.up n) refl
  step_gives (Run n) = by_work n (work_at w.works n) refl
  step_gives (Timeout seq) = by_filter _ no_line _ (cores.times_out seq)
  step_gives (Connect port) = by_connection port (connect_refusal (desk_of w port)) refl
  step_gives (DisconnectFilter port) = by_filter _ no_line _ (cores.IsFilterEvent.disconnects port)
  step_gives (DisconnectService port) = gives.service (DisconnectService port) port Silent service_events.Disconnects (cores.IsServiceEvent.disconnects port)
  step_gives RestartFilter = by_filter _ (λ v. Booted v.boot) _ cores.IsFilterEvent.restarts
  step_gives (RestartService port) = gives.service (RestartService port) port Silent (service_events.Restarts (latest w.sets)) (cores.IsServiceEvent.restarts port)

-- what holds of the world as it was and of that after each kind of event holds after every event
pub step_keeps : (P : Event → WorldState → Type 0) (w : WorldState) → ((e : Event) → P e w) → Preserves P w → (e : Event) → P e (after w e)
step_keeps P w before k e = kept (step_of w e) (step_gives (λ e p. P e p.1) w (record { filter = λ e line f is ok. k.filter e f is ok; service = λ e port line s is. k.service e port s is; publish = k.publish; work = λ n x line is. k.work n x is }) e)
  where
    kept : (o : Outcome) → Unrefused (λ p. P e p.1) o → P e (world_or w o)
    kept (Ok p) h = h
    kept (Err f) h = before e

-- what every event keeps, every history keeps
pub history_keeps : (P : WorldState → Type 0) → ((w : WorldState) → P w → Preserves (λ e. P) w) → (w : WorldState) → P w → (es : List Event) → P (world_of w es)
history_keeps P f w h [] = h
history_keeps P f w h (e ∷ es) = let rest = history_keeps P f w h es in step_keeps (λ e. P) (world_of w es) (λ e. rest) (f (world_of w es) rest) e
