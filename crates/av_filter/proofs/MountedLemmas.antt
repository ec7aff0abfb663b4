-- A filter stays fit for the volume that it is mounted on.
use Rattle.std.proofs.Common.{◌≡◌, None, Some, Option, OnErr, OnOk, Result, Ok, Err, sym, subst}
use Rattle.av_base.specs.declared.refusal.Refusal.{Refusal}
use Rattle.av_base.specs.declared.refusal.Refusal.TheVariants.{Fault, NoMemory}
use Rattle.av_filter.proofs.FitLemmas.{event_fits}
use Rattle.av_filter.specs.Asking.{Calls}
use Rattle.av_filter.specs.Call.{Meets, MeetsAlways}
use Rattle.av_filter.specs.Conduct.{FilterEvent, filter_step}
use Rattle.av_filter.specs.Fit.{Fits, IsCoherent}
use Rattle.av_filter.specs.Reaction.{Reaction}
use Rattle.av_filter.specs.declared.out.Out.{Out}
use Rattle.av_filter_table.specs.Table.{Table}
use Rattle.av_store.specs.Store.{Store}

-- nothing has changed
unchanged : (t t' : Table) (v v' : Store) → Fits t v → t' ≡ t → v' ≡ v → Fits t' v'
unchanged t t' v v' fits table volume = subst (λ k. Fits k v') (sym table) (subst (Fits t) (sym volume) fits)

-- a call that was refused changed nothing
pub fits_met : {F : Type 0} (r : Result Out (Refusal F)) (t t' : Table) (v v' : Store) (fault : Option F) (reaction : Reaction) → Meets t v t' v' r fault reaction → Fits t v → OnOk r (Fits t' v') → Fits t' v'
fits_met (Ok out) t t' v v' fault reaction meets fits ok = ok
fits_met (Err (Fault f)) t t' v v' fault reaction meets fits ok = unchanged t t' v v' fits meets.1 meets.2
fits_met (Err NoMemory) t t' v v' fault reaction meets fits ok = unchanged t t' v v' fits meets.1 meets.2

pub fits_always : {E : Type 0} (r : Result Out E) (t t' : Table) (v v' : Store) (reaction : Reaction)
    → MeetsAlways t v t' v' r reaction → Fits t v → OnOk r (Fits t' v') → Fits t' v'
fits_always (Ok out) t t' v v' reaction meets fits ok = ok
fits_always (Err e) t t' v v' reaction meets fits ok = unchanged t t' v v' fits meets.0 meets.1

pub fits_remounted : {A E : Type 0} (r : Result A E) (t t' : Table) (v v' : Store) → OnErr r ((t' ≡ t) × (v' ≡ v)) → Fits t v → OnOk r (Fits t' v') → Fits t' v'
fits_remounted (Ok out) t t' v v' err fits ok = ok
fits_remounted (Err e) t t' v v' err fits ok = unchanged t t' v v' fits err.0 err.1

-- it did what it was asked, or not
pub fits_called : (r : Option Out) (t t' : Table) (v v' : Store) (f : FilterEvent) → Calls t v t' v' f r → IsCoherent t → Fits t v → Fits t' v'
fits_called None t t' v v' f is coherent fits = unchanged t t' v v' fits is.0 is.1
fits_called (Some out) t t' v v' f is coherent fits =
    let after = event_fits t v f (record { coherent = coherent; fits = fits }) is.0 in
    subst (λ k. Fits k v') (sym is.1.table) (subst (Fits (filter_step t v f).table) (sym is.1.volume) after.fits)
