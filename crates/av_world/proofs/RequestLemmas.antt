-- What an event asks for is what comes of it.
use Rattle.std.proofs.Common.{◌≡◌, ◌==◌, ◌<◌, ◌≤◌, ℕ, true, false, cond, List, [], ◌∷◌, ap, None, Some, Option, Result, Ok, Err, refl, sym, subst, ◌∙◌, arith, eqb-true}
use Rattle.std.proofs.lemmas.Bool.{eqb-false, true≢false}
use Rattle.std.specs.List.{AllByRecursion}
use Rattle.std.specs.Option.{option_map}
use Rattle.std.specs.Prelude.{IsOk}
use Rattle.av_base.specs.declared.port.Port.{Port}
use Rattle.av_filter.specs.Conduct.{FilterEvent, filter_refusal}
use Rattle.av_filter.specs.Conduct as filter
use Rattle.av_filter.specs.declared.fault.FilterFault.{FilterFault}
use Rattle.av_frame.specs.Message.{Letter}
use Rattle.av_service.specs.Conduct.{Connects, ServiceEvent, connect_refusal, service_step}
use Rattle.av_service.specs.Conduct as service
use Rattle.av_service.specs.Work.{WorkState}
use Rattle.av_service.specs.declared.fault.ConnectFault.{ConnectFault}
use Rattle.av_sigset.specs.Catalogue.{IsFalling, latest, may_publish, set_at}
use Rattle.av_sigset.specs.Judge.{bad_line}
use Rattle.av_sigset.specs.declared.signature.Pattern.{Pattern}
use Rattle.av_sigset.specs.Made.{fault_in, serial_signatures, set_made}
use Rattle.av_base.specs.Refused.{unless, IsFaultOf}
use Rattle.av_sigset.specs.Set.{NumberedSet}
use Rattle.av_sigset.specs.declared.fault.CatalogueFault.{CatalogueFault}
use Rattle.av_sigset.specs.declared.fault.SetFaultKind.TheVariants.{Version}
use Rattle.av_filter.specs.declared.fault.FilterFault.TheVariants as filter_fault
use Rattle.av_filter_table.specs.Table.{Table}
use Rattle.std.specs.Result.{result_err}
use Rattle.av_store.specs.Files.{Change}
use Rattle.av_store.specs.Files as change
use Rattle.av_store.specs.Seen.{change_of, volume_of}
use Rattle.av_store.specs.Store.{Store, create_of, cut_of, remove_of, write_of}
use Rattle.av_store.specs.declared.fault.StoreFault.{StoreFault}
use Rattle.av_world.specs.Request.{Asks, frame_fault, outcome_of, served, work_fault}
use Rattle.av_world.specs.Serving.{TakesServed, service_refusal}
use Rattle.av_world.specs.Stage.{Happens, Takes, at_history}
use Rattle.av_history.specs.Whole.{IsWhole}
use Rattle.av_history.specs.World.{WorldState, added, connected, desk_of, down_frame, filter_event, member, no_line, published, service_outcome, step_fault, step_of, up_frame, work_event}
use Rattle.av_history.specs.declared.event.Event.{Event}
use Rattle.av_history.specs.declared.event.Event.TheVariants.{Connect}
use Rattle.av_history.specs.declared.fault.StepFault.{StepFault}
use Rattle.av_history.specs.declared.fault.StepFault.TheVariants as fault
use Rattle.av_history.specs.declared.report.Line.{Line}
use Rattle.av_history.specs.declared.report.Line.TheVariants.{Silent}
use Rattle.av_history.specs.declared.report.Report.{Report}
use Rattle.av_world.specs.declared.world.request.Request.{Request}

connects_as : (w : WorldState) (port : Port) (o : Option ConnectFault) → connected w (Connect port) port o ≡ unless (option_map fault.Connect o) (service_outcome w (Connect port) port Silent (service_step (desk_of w port) Connects))
connects_as w port None = refl
connects_as w port (Some f) = refl

pub connects : (w : WorldState) (port : Port) → connected w (Connect port) port (connect_refusal (desk_of w port)) ≡ served w (Connect port) port Connects
connects w port = connects_as w port (connect_refusal (desk_of w port))

-- ---- refusals

store_as : (o : Option StoreFault) → option_map fault.Store o ≡ option_map step_fault (option_map filter_fault.Store o)
store_as None = refl
store_as (Some f) = refl

-- a change is refused as the volume refuses it
pub refused_change : (t : Table) (v : Store) (c : Change) (o : Option StoreFault) → o ≡ result_err (change_of v c) → option_map fault.Store o ≡ option_map step_fault (filter_refusal t v (filter.Changes c))
unfolding filter_refusal
refused_change t v c o is = ap (option_map fault.Store) is ∙ store_as (result_err (change_of v c))

created_fault : (r : Result (ℕ × Store) StoreFault) → result_err r ≡ result_err (volume_of r)
created_fault (Ok p) = refl
created_fault (Err f) = refl

pub refused_create : (v : Store) (name : List ℕ) (o : Option StoreFault) → o ≡ result_err (create_of v name) → o ≡ result_err (change_of v (change.Create name))
unfolding change_of
refused_create v name o is = is ∙ created_fault (create_of v name)

pub refused_write : (v : Store) (s offset : ℕ) (bytes : List ℕ) (o : Option StoreFault) → o ≡ result_err (write_of v s offset bytes) → o ≡ result_err (change_of v (change.Write s offset bytes))
unfolding change_of
refused_write v s offset bytes o is = is

pub refused_cut : (v : Store) (s n : ℕ) (o : Option StoreFault) → o ≡ result_err (cut_of v s n) → o ≡ result_err (change_of v (change.Cut s n))
unfolding change_of
refused_cut v s n o is = is

pub refused_remove : (v : Store) (s : ℕ) (o : Option StoreFault) → o ≡ result_err (remove_of v s) → o ≡ result_err (change_of v (change.Remove s))
unfolding change_of
refused_remove v s o is = is

refused_event : (o : Option FilterFault) (x : Report × WorldState) → IsFaultOf (unless (option_map step_fault o) x) (option_map step_fault o)
refused_event None x = refl
refused_event (Some f) x = refl

pub refused_filter : (w : WorldState) (e : Event) (line : Store → Line) (f : FilterEvent) → IsFaultOf (filter_event w e line f) (option_map step_fault (filter_refusal w.table w.volume f))
refused_filter w e line f = refused_event (filter_refusal w.table w.volume f) _

refused_serve : (o : Option ConnectFault) (x : Report × WorldState) → IsFaultOf (unless (option_map fault.Connect o) x) (option_map fault.Connect o)
refused_serve None x = refl
refused_serve (Some f) x = refl

pub refused_service : (w : WorldState) (e : Event) (port : Port) (s : ServiceEvent) → IsFaultOf (served w e port s) (option_map fault.Connect (service_refusal (desk_of w port) s))
refused_service w e port s = refused_serve (service_refusal (desk_of w port) s) _

pub refused_down : (w : WorldState) (e : Event) (o : Option Letter) → IsFaultOf (down_frame w e o) (frame_fault o)
refused_down w e None = refl
refused_down w e (Some m) = refl

pub refused_up : (w : WorldState) (e : Event) (o : Option Letter) → IsFaultOf (up_frame w e o) (frame_fault o)
unfolding filter_refusal
refused_up w e None = refl
refused_up w e (Some m) = refl

pub refused_work : (w : WorldState) (e : Event) (k : ℕ) (o : Option (Port × WorkState)) → IsFaultOf (work_event w e k o) (work_fault o)
refused_work w e k None = refl
refused_work w e k (Some x) = refl

added_ok : (w : WorldState) (e : Event) (s : NumberedSet) (r : Result (Unit {0}) CatalogueFault) → r ≡ Ok tt → IsOk (added w e s r)
added_ok w e s (Ok done) h = refl
added_ok w e s (Err f) h = absurd cc

-- a set that can be made under a version that may be published is published
pub can_be_published : (w : WorldState) (e : Event) (version : ℕ) (ps : List Pattern) → IsOk (set_made version ps) → may_publish w.sets version ≡ Ok tt → IsOk (published w e (set_made version ps))
can_be_published w e version ps =
    elim (version == 0) as (λ b. IsOk (cond b (bad_line 2 Version) (unless {A = NumberedSet} (fault_in 0 0 ps) (record { version = version; signatures = serial_signatures 0 ps })))
    → may_publish w.sets version ≡ Ok tt
    → IsOk (published w e (cond b (bad_line 2 Version) (unless {A = NumberedSet} (fault_in 0 0 ps) (record { version = version; signatures = serial_signatures 0 ps }))))) [
      | true ↦ λ made may. absurd (true≢false (sym made))
      | false ↦
          elim (fault_in 0 0 ps) as (λ o. IsOk (unless {A = NumberedSet} o (record { version = version; signatures = serial_signatures 0 ps })) → may_publish w.sets version ≡ Ok tt
          → IsOk (published w e (unless {A = NumberedSet} o (record { version = version; signatures = serial_signatures 0 ps })))) [
            | None ↦ λ made may. added_ok w e (record { version = version; signatures = serial_signatures 0 ps }) (may_publish w.sets version) may
            | Some why ↦ λ made may. absurd (true≢false (sym made))
          ]
    ]

-- a request that takes what the event takes
pub delivers_down : (r : Option Report) (old new : WorldState) (h : List Event) (e : Event) (k : ℕ) (m : Letter) → member old.down k ≡ Some m → TakesServed old new h e m.port (service.Receives m) r → Takes old new h e (down_frame (at_history h old) e (member old.down k)) r
delivers_down None old new h e k m there is = is
delivers_down (Some report) old new h e k m there is = ap (down_frame (at_history h old) e) there ∙ is.1

pub delivers_up : (r : Option Report) (old new : WorldState) (h : List Event) (e : Event) (k : ℕ) (m : Letter) → member old.up k ≡ Some m → Takes old new h e (filter_event (at_history h old) e no_line (filter.Receives m)) r → Takes old new h e (up_frame (at_history h old) e (member old.up k)) r
delivers_up None old new h e k m there is = is
delivers_up (Some report) old new h e k m there is = ap (up_frame (at_history h old) e) there ∙ is

pub serves : (r : Option Report) (old new : WorldState) (h : List Event) (e : Event) (port : Port) (s : ServiceEvent) → TakesServed old new h e port s r → Takes old new h e (served (at_history h old) e port s) r
serves None old new h e port s is = is
serves (Some report) old new h e port s is = ap (λ o. unless (option_map fault.Connect o) (service_outcome (at_history h old) e port Silent (service_step (desk_of old port) s))) is.0 ∙ is.1

-- what a request takes, its event takes
pub happens : (r : Option Report) (old new : WorldState) (h : List Event) (e : Event) (q : Request) → Asks h old e (Ok q) → Takes old new h e (outcome_of (at_history h old) e q) r → Happens old new h e r
happens None old new h e q asks is = is
happens (Some report) old new h e q asks is = asks ∙ is

pub refused_so : (r : Option StepFault) (old : WorldState) (h : List Event) (e : Event) (q : Request) → Asks h old e (Ok q) → IsFaultOf (outcome_of (at_history h old) e q) r → IsFaultOf (step_of (at_history h old) e) r
refused_so r old h e q asks is = subst (λ o. IsFaultOf o r) (sym asks) is

-- ---- versions

-- a version that was published is not above the latest
below_latest : (s : NumberedSet) (sets : List NumberedSet) (version : ℕ) (x : NumberedSet) → AllByRecursion (λ t. t.version < s.version) sets → set_at sets version ≡ Some x → version ≤ s.version
unfolding set_at
below_latest s [] version x all found = absurd cc
below_latest s (t ∷ sets) version x all found =
    (elim (t.version == version) as (λ b. (t.version == version) ≡ b → cond b (Some t) (set_at sets version) ≡ Some x → version ≤ s.version) [
      | true ↦ λ is g. let same = eqb-true t.version version is in let below = all.0 in omega (arith, same, below)
      | false ↦ λ is g. below_latest s sets version x all.1 g
    ]) refl found

published_below : (sets : List NumberedSet) (version : ℕ) (x : NumberedSet) → IsFalling sets → set_at sets version ≡ Some x → version ≤ latest sets
unfolding set_at
published_below [] version x falls found = absurd cc
published_below (s ∷ sets) version x falls found =
    (elim (s.version == version) as (λ b. (s.version == version) ≡ b → cond b (Some s) (set_at sets version) ≡ Some x → version ≤ s.version) [
      | true ↦ λ is g. let same = eqb-true s.version version is in omega (arith, same)
      | false ↦ λ is g. below_latest s sets version x falls.0 g
    ]) refl found

pub not_above : (w : WorldState) → IsWhole w → IsFalling w.sets → (port : Port) → (desk_of w port).version ≤ latest w.sets
not_above w whole falls port =
    (elim ((desk_of w port).version == 0) as (λ b. ((desk_of w port).version == 0) ≡ b → (desk_of w port).version ≤ latest w.sets) [
      | true ↦ λ is. let zero = eqb-true (desk_of w port).version 0 is in omega (arith, zero)
      | false ↦ λ is. let there = whole.present port (eqb-false (desk_of w port).version 0 is) in published_below w.sets (desk_of w port).version there.0 falls there.1
    ]) refl
