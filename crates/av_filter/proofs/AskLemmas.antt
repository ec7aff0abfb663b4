-- What calls of the filter answer is what becomes of an event.
use Rattle.std.proofs.Common.{[], ap, ◌≡◌, ◌==◌, ℕ, true, false, if◌then◌else◌, eqb-true, List, None, Some, Result, Ok, Err, refl, sym}
use Rattle.std.specs.Option.{option_map}
use Rattle.std.specs.Result.{result_ok, result_err}
use Rattle.std.specs.Prelude.{IfOk, OnErr}
use Rattle.av_base.specs.declared.port.Port.{Port}
use Rattle.av_base.specs.declared.refusal.Refusal.{Refusal}
use Rattle.av_base.specs.declared.refusal.Refusal.TheVariants.{Fault, NoMemory}
use Rattle.av_filter.specs.Asking.{Calls}
use Rattle.av_filter.specs.Call.{Meets, MeetsAlways, Reacts}
use Rattle.av_filter.specs.Changing.{changes, cleaned}
use Rattle.av_filter.specs.Conduct.{FilterEvent, Changes, CleansUp, Disconnects, Receives, Restarts, TimesOut, disconnects, filter_refusal, filter_step, restarts}
use Rattle.av_filter.specs.Receiving.{receives}
use Rattle.av_filter.specs.declared.fault.FilterFault.{FilterFault}
use Rattle.av_filter.specs.declared.fault.FilterFault.TheVariants.{BootSpent}
use Rattle.av_filter.specs.declared.fault.FilterFault.TheVariants as fault
use Rattle.av_filter.specs.declared.note.Note.TheVariants.{Quiet}
use Rattle.av_filter.specs.declared.out.Out.{Out}
use Rattle.av_filter_table.specs.Table.{Table}
use Rattle.av_frame.specs.Message.{Letter}
use Rattle.av_store.specs.Files as change
use Rattle.av_store.specs.Rows.{stream_at}
use Rattle.av_store.specs.Seen.{change_of, kept_or, volume_of}
use Rattle.av_store.specs.Store.{Store, create_of, greatest}

pub meets : (r : Result Out (Refusal FilterFault)) (t : Table) (v : Store) (t' : Table) (v' : Store) (f : FilterEvent) → Meets t v t' v' r (filter_refusal t v f) (filter_step t v f) → Calls t v t' v' f (result_ok r)
meets (Ok out) t v t' v' f h = h
meets (Err (Fault why)) t v t' v' f h = (h.1, h.2)
meets (Err NoMemory) t v t' v' f h = (h.1, h.2)

meets_always : {E : Type 0} (r : Result Out E) (t : Table) (v : Store) (t' : Table) (f : FilterEvent) → filter_refusal t v f ≡ None → MeetsAlways t v t' v r (filter_step t v f) → Calls t v t' v f (result_ok r)
meets_always (Ok out) t v t' f free h = (free, h)
meets_always (Err why) t v t' f free h = (h.0, refl)

pub cleaned_up : {E : Type 0} (r : Result Out E) (t : Table) (v : Store) (t' : Table) (s : ℕ) → MeetsAlways t v t' v r (cleaned t v s (stream_at s v.streams)) → Calls t v t' v (CleansUp s) (result_ok r)
unfolding filter_step filter_refusal
cleaned_up r t v t' s h = meets_always r t v t' (CleansUp s) refl h

pub received : {E : Type 0} (r : Result Out E) (t : Table) (v : Store) (t' : Table) (m : Letter) → MeetsAlways t v t' v r (receives t v m) → Calls t v t' v (Receives m) (result_ok r)
unfolding filter_step filter_refusal
received r t v t' m h = meets_always r t v t' (Receives m) refl h

pub timed_out : {E : Type 0} (r : Result Out E) (t : Table) (v : Store) (t' : Table) (seq : ℕ) → MeetsAlways t v t' v r (filter_step t v (TimesOut seq)) → Calls t v t' v (TimesOut seq) (result_ok r)
unfolding filter_refusal
timed_out r t v t' seq h = meets_always r t v t' (TimesOut seq) refl h

pub disconnected : {E : Type 0} (r : Result Out E) (t : Table) (v : Store) (t' : Table) (port : Port) → MeetsAlways t v t' v r (disconnects t v port) → Calls t v t' v (Disconnects port) (result_ok r)
unfolding filter_step filter_refusal
disconnected r t v t' port h = meets_always r t v t' (Disconnects port) refl h

-- a stream was created, and the filter has nothing to do
pub created : (out : Out) (t : Table) (v v' : Store) (name : List ℕ) (s : ℕ) → create_of v name ≡ Ok (s, v') → out.answers.items ≡ [] → out.messages.items ≡ [] → out.note ≡ Quiet
    → Calls t v t v' (Changes (change.Create name)) (Some out)
unfolding filter_step filter_refusal changes change_of
created out t v v' name s is none no_message quiet = (
  ap (λ r. option_map fault.Store (result_err (volume_of r))) is,
  record {
    answers = none;
    messages = no_message;
    note = quiet;
    table = refl;
    volume = sym (ap (λ r. kept_or v (volume_of r)) is);
  },
)

may_mount : (v : Store) → (v.boot ≡ greatest → ⊥) → (if v.boot == greatest then Some BootSpent else None) ≡ None
may_mount v some = (elim (v.boot == greatest) as (λ b. (v.boot == greatest) ≡ b → (if b then Some BootSpent else None) ≡ None) [ true ↦ λ is. absurd (some (eqb-true v.boot greatest is)) | false ↦ λ is. refl ]) refl

-- a filter that was mounted anew
pub remounted : {E : Type 0} (r : Result Out E) (t : Table) (v : Store) (t' : Table) (v' : Store) → (v.boot ≡ greatest → ⊥) → IfOk r (λ out. Reacts out t' v' (restarts t v)) → OnErr r ((t' ≡ t) × (v' ≡ v)) → Calls t v t' v' Restarts (result_ok r)
unfolding filter_step filter_refusal
remounted (Ok out) t v t' v' some is err = (may_mount v some, is)
remounted (Err why) t v t' v' some is err = err
