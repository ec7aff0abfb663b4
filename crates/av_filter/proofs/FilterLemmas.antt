-- What each call of a filter keeps, from what it answers.
use Rattle.std.proofs.Common.{◌≡◌, ℕ, None, IfOk, OnErr, OnOk, Result, Ok, Err, sym, subst}
use Rattle.av_base.specs.declared.limits.LimitValues.{LimitValues}
use Rattle.av_base.specs.declared.mode.Mode.{Mode}
use Rattle.av_base.specs.declared.refusal.Refusal.{Refusal}
use Rattle.av_base.specs.declared.refusal.Refusal.TheVariants.{Fault, NoMemory}
use Rattle.av_filter.proofs.FitLemmas.{event_fits, mounted_fits, opened_fits}
use Rattle.av_filter.proofs.PortLemmas.{event_runs}
use Rattle.av_filter.specs.Call.{Meets, MeetsAlways, Reacts}
use Rattle.av_filter.specs.Conduct.{FilterEvent, Opens, filter_refusal, filter_step, restarts}
use Rattle.av_filter.specs.Fit.{Fits, IsCoherent, RunOnOpen, Stands}
use Rattle.av_filter.specs.Opening.{opened, taken}
use Rattle.av_filter.specs.Reaction.{Reaction}
use Rattle.av_filter.specs.declared.fault.FilterFault.{FilterFault}
use Rattle.av_filter.specs.declared.out.Out.{Out}
use Rattle.av_filter_table.specs.Table.{Table, mounted}
use Rattle.av_store.specs.Store.{Store}

-- what holds of every filter
abbrev pub Kept : Table → Type 0
Kept t = IsCoherent t × RunOnOpen t

-- the same, and a volume that the table fits
pub record Whole (t : Table) (v : Store) : Type 0 where
  pub kept : Kept t
  pub fits : Fits t v

stands : (t : Table) (v : Store) → Whole t v → Stands t v
stands t v w = record { coherent = w.kept.0; fits = w.fits }

whole : (t : Table) (v : Store) → Stands t v → RunOnOpen t → Whole t v
whole t v s run = record { kept = (s.coherent, run); fits = s.fits }

-- what holds after a reaction, holds where it led
where_it_led : (out : Out) (t : Table) (v : Store) (r : Reaction) → Reacts out t v r → Whole r.table r.volume → Whole t v
where_it_led out t v r is w = subst (λ u. Whole u v) (sym is.table) (subst (Whole r.table) (sym is.volume) w)

after : (t : Table) (v : Store) (e : FilterEvent) → Whole t v → filter_refusal t v e ≡ None → Whole (filter_step t v e).table (filter_step t v e).volume
after t v e w free = whole _ _ (event_fits t v e (stands t v w) free) (event_runs t v e w.kept.1)

-- a call that is refused has changed nothing
unchanged : (t : Table) (v : Store) (t' : Table) (v' : Store) → Whole t v → (t' ≡ t) × (v' ≡ v) → Whole t' v'
unchanged t v t' v' w same = subst (λ u. Whole u v') (sym same.0) (subst (Whole t) (sym same.1) w)

pub always : {E : Type 0} (result : Result Out E) (t : Table) (v : Store) (t' : Table) (v' : Store) (e : FilterEvent) → Whole t v → filter_refusal t v e ≡ None → MeetsAlways t v t' v' result (filter_step t v e) → Whole t' v'
always (Ok out) t v t' v' e w free is = where_it_led out t' v' (filter_step t v e) is (after t v e w free)
always (Err why) t v t' v' e w free is = unchanged t v t' v' w is

pub unless : (result : Result Out (Refusal FilterFault)) (t : Table) (v : Store) (t' : Table) (v' : Store) (e : FilterEvent) → Whole t v → Meets t v t' v' result (filter_refusal t v e) (filter_step t v e) → Whole t' v'
unless (Ok out) t v t' v' e w is = where_it_led out t' v' (filter_step t v e) is.1 (after t v e w is.0)
unless (Err (Fault f)) t v t' v' e w is = unchanged t v t' v' w (is.1, is.2)
unless (Err NoMemory) t v t' v' e w is = unchanged t v t' v' w (is.1, is.2)

-- a clause of a call that succeeds
pub on_ok : {A E : Type 0} (r : Result A E) (P : Type 0) → P → OnOk r P
on_ok (Ok a) P p = p
on_ok (Err e) P p = tt

-- an open, whose number is taken
pub opens : (out : Out) (t : Table) (v : Store) (t' : Table) (v' : Store) (s least : ℕ) → Whole t v → v' ≡ taken v → Reacts out t' (taken v) (opened t v s least) → Whole t' v'
unfolding filter_step
opens out t v t' v' s least w is reacts =
    let run : RunOnOpen (opened t v s least).table = event_runs t v (Opens s least) w.kept.1 in
    subst (Whole t') (sym is) (where_it_led out t' (taken v) (opened t v s least) reacts (whole _ _ (opened_fits t v (stands t v w) s least) run))

-- a filter that was mounted, and one that was mounted anew
pub mounts : (t : Table) (v : Store) (mode : Mode) (limits : LimitValues) → t ≡ mounted mode limits v.boot → Whole t v
mounts t v mode limits is = subst (λ u. Whole u v) (sym is) (whole _ _ (mounted_fits mode limits v) tt)

pub restarted : (out : Out) (t t' : Table) (v v' : Store) → Reacts out t' v' (restarts t v) → Whole t' v'
unfolding restarts
restarted out t t' v v' is = where_it_led out t' v' (restarts t v) is (whole _ _ (mounted_fits t.mode t.limits (restarts t v).volume) tt)

-- what holds of each table and volume that a restart leads to, where it succeeds
pub on_restart : {E : Type 0} (P : Type 0) (r : Result Out E) (t t' : Table) (v v' : Store) → ((out : Out) → Reacts out t' v' (restarts t v) → P) → IfOk r (λ out. Reacts out t' v' (restarts t v)) → OnOk r P
on_restart P (Ok out) t t' v v' f h = f out h
on_restart P (Err e) t t' v v' f h = tt

-- or nothing has changed
pub restarts_kept : {E : Type 0} (r : Result Out E) (t t' : Table) (v v' : Store) → Kept t → IfOk r (λ out. Reacts out t' v' (restarts t v)) → OnErr r ((t' ≡ t) × (v' ≡ v)) → Kept t'
restarts_kept (Ok out) t t' v v' kept is err = (restarted out t t' v v' is).kept
restarts_kept (Err e) t t' v v' kept is err = subst Kept (sym err.0) kept
