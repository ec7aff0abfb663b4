-- What calls of the service answer is what an event asks of it, and is little.
use Rattle.std.proofs.Common.{ℕ, ◌≡◌, ◌+◌, ◌≤◌, Bool, true, false, cond, List, [], length, map, Option, Some, None, Result, Ok, Err, arith, refl, sym, subst}
use Rattle.std.proofs.lemmas.List.{length-map}
use Rattle.std.specs.Prelude.{IfOk, IfSome}
use Rattle.std.specs.Result.{result_ok}
use Rattle.av_base.specs.declared.refusal.Refusal.{Refusal}
use Rattle.av_base.specs.declared.refusal.Refusal.TheVariants.{Fault, NoMemory}
use Rattle.av_frame.specs.Message.{via}
use Rattle.av_frame.specs.declared.message.Body.{Body}
use Rattle.av_service.proofs.RowLemmas.{row_of}
use Rattle.av_service.specs.Call.{Meets, MeetsAlways, Responds}
use Rattle.av_service.specs.Conduct.{ServiceEvent, Connects, Publishes, connect_refusal, service_step}
use Rattle.av_service.specs.Desk.{Desk, afresh}
use Rattle.av_service.specs.Response.{Response, read_message}
use Rattle.av_service.specs.Rows
use Rattle.av_service.specs.Rows.{Row, ScanRow}
use Rattle.av_service.specs.declared.fault.ConnectFault.{ConnectFault}
use Rattle.av_service.specs.declared.job.Job.{Job}
use Rattle.av_service.specs.declared.out.ServiceOut.{ServiceOut}
use Rattle.av_world.specs.Serving.{IsSmallResponse, Serves, service_refusal}

pub connected : (r : Result ServiceOut (Refusal ConnectFault)) (d d' : Desk) → Meets d d' r (connect_refusal d) (service_step d Connects) → Serves d d' Connects (result_ok r)
connected (Ok out) d d' h = h
connected (Err (Fault why)) d d' h = h.1
connected (Err NoMemory) d d' h = h.1

pub meets : {E : Type 0} (r : Result ServiceOut E) (d d' : Desk) (s : ServiceEvent) → service_refusal d s ≡ None → MeetsAlways d d' r (service_step d s) → Serves d d' s (result_ok r)
meets (Ok out) d d' s free h = (free, h)
meets (Err why) d d' s free h = h

-- ---- one message, or one for each job and one more

abbrev pub IsSmall : ℕ → Response → Type 0
IsSmall n r = length r.messages ≤ n + 1

scan_small : {d : Desk} {j : Job} {r : Response} → ScanRow d j r → IsSmall (length d.jobs) r
scan_small (Rows.cached e at) = omega arith
scan_small _ = omega arith

row_small : {d : Desk} {s : ServiceEvent} {r : Response} → Row d s r → IsSmall (length d.jobs) r
row_small (Rows.scanned port id s g l r hears none row) = scan_small row
row_small {d} (Rows.updated version on) =
    let reads : List Body = map (λ j. read_message d.limits (afresh version j)) d.jobs in
    omega (arith, length-map d.jobs (λ j. read_message d.limits (afresh version j)), length-map reads (via d.port))
row_small _ = omega arith

small_response : (d : Desk) (s : ServiceEvent) → IsSmall (length d.jobs) (service_step d s)
small_response d s = row_small (row_of d s)

pub small_if : (r : Option ServiceOut) (d d' : Desk) (s : ServiceEvent) → Serves d d' s r → IfSome r (IsSmallResponse (length d.jobs))
small_if (Some out) d d' s is = subst (λ ms. length ms ≤ length d.jobs + 1) (sym is.1.messages) (small_response d s)
small_if None d d' s is = tt

pub small_finish : {E : Type 0} (r : Result ServiceOut E) (d d' : Desk) (s : ServiceEvent) → IfOk r (λ out. Responds out d' (service_step d s)) → IfOk r (IsSmallResponse (length d.jobs))
small_finish (Ok out) d d' s is = subst (λ ms. length ms ≤ length d.jobs + 1) (sym is.messages) (small_response d s)
small_finish (Err e) d d' s is = tt

-- a publication sends few messages, and lends nothing
pub few_told : (d : Desk) (version : ℕ) → length (service_step d (Publishes version)).messages ≤ length d.jobs + 1
few_told d version = small_response d (Publishes version)

lent_neither : (b : Bool) (x y : Response) → x.works ≡ [] → y.works ≡ [] → (cond b x y).works ≡ []
lent_neither true x y p q = p
lent_neither false x y p q = q

pub none_lent : (d : Desk) (version : ℕ) → (service_step d (Publishes version)).works ≡ []
unfolding service_step
none_lent d version = lent_neither d.connected _ _ refl refl
