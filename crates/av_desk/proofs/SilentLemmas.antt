-- Events that give out no work.
use Rattle.std.proofs.Common.{◌≡◌, ◌+◌, ◌==◌, [], Option, Some, None, Result, Ok, Err, refl, ◌∙◌}
use Rattle.std.proofs.lemmas.Bool.{cond_both}
use Rattle.std.specs.Option.{option_to_list}
use Rattle.std.specs.Prelude.{IfOk}
use Rattle.av_base.specs.declared.refusal.Refusal.{Refusal}
use Rattle.av_base.specs.declared.refusal.Refusal.TheVariants.{Fault, NoMemory}
use Rattle.av_base.specs.declared.verdict.Verdict.{Verdict}
use Rattle.av_match.specs.Scanning.{ScanState}
use Rattle.av_service.specs.Call.{Meets, Responds}
use Rattle.av_service.specs.Conduct.{Connects, Disconnects, Finishes, Publishes, Receives, Restarts, ServiceEvent, connect_refusal, service_step}
use Rattle.av_service.specs.Desk.{Desk, lent_under, loan_count}
use Rattle.av_service.specs.Lending.{finished}
use Rattle.av_service.specs.Response.{Response}
use Rattle.av_service.specs.Work.{WorkState}
use Rattle.av_service.specs.declared.fault.ConnectFault.{ConnectFault}
use Rattle.av_service.specs.declared.job.Job.{Job}
use Rattle.av_service.specs.declared.out.ServiceOut.{ServiceOut}

-- messages alone lend works
abbrev pub IsSilent : ServiceEvent → Type 0
IsSilent (Receives m) = ⊥
IsSilent _ = Unit {0}

finished_silent : (d : Desk) (scan : ScanState) (hit : Option Verdict) (o : Option Job) → (finished d scan hit o).works ≡ []
unfolding finished
finished_silent d scan hit None = refl
finished_silent d scan (Some r) (Some j) = refl
finished_silent d scan None (Some j) = cond_both (j.offset + loan_count j.loan == j.length) _ _ (λ (r : Response). r.works ≡ []) (λ e. refl) (λ e. refl)

pub no_works : (d : Desk) (e : ServiceEvent) → IsSilent e → (service_step d e).works ≡ []
unfolding service_step
no_works d Connects quiet = refl
no_works d Disconnects quiet = refl
no_works d (Receives m) quiet = absurd quiet
no_works d (Finishes lease scan hit) quiet = finished_silent d scan hit (lent_under lease d.jobs)
no_works d (Publishes v) quiet = cond_both d.connected _ _ (λ (r : Response). r.works ≡ []) (λ e. refl) (λ e. refl)
no_works d (Restarts v) quiet = refl

none_is : (o : Option WorkState) → option_to_list o ≡ [] → o ≡ None
none_is None is = refl
none_is (Some k) is = absurd cc

pub silent : (out : ServiceOut) (d d' : Desk) (e : ServiceEvent) → IsSilent e → Responds out d' (service_step d e) → out.work ≡ None
silent out d d' e quiet h = none_is out.work (h.works ∙ no_works d e quiet)

pub silent_connect : (r : Result ServiceOut (Refusal ConnectFault)) (d d' : Desk) → Meets d d' r (connect_refusal d) (service_step d Connects) → IfOk r (λ out. out.work ≡ None)
silent_connect (Ok out) d d' h = silent out d d' Connects tt h.1
silent_connect (Err (Fault f)) d d' h = tt
silent_connect (Err NoMemory) d d' h = tt

pub silent_if : {E : Type 0} (r : Result ServiceOut E) (d d' : Desk) (e : ServiceEvent) → IsSilent e → IfOk r (λ out. Responds out d' (service_step d e)) → IfOk r (λ out. out.work ≡ None)
silent_if (Ok out) d d' e quiet h = silent out d d' e quiet h
silent_if (Err f) d d' e quiet h = tt
