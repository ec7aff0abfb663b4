-- The automaton of the set published last is that of each work that is lent.
use Rattle.std.proofs.Common.{◌≡◌, ℕ, ◌≤◌, ◌==◌, true, List, [], ◌∷◌, Option, Some, None, refl, sym, ◌∙◌, subst, arith, eq-eqb}
use Rattle.std.specs.List.{AllByRecursion as Each}
use Rattle.std.specs.Option.{option_to_list}
use Rattle.av_desk.specs.Book.{IsBuilt}
use Rattle.av_desk.specs.Lent.{AreLent, IsMet, lent_with}
use Rattle.av_match.specs.Scanning.{Compiled}
use Rattle.av_service.proofs.LendLemmas
use Rattle.av_service.specs.Call.{Responds}
use Rattle.av_service.specs.Conduct.{ServiceEvent, service_step}
use Rattle.av_service.specs.Desk.{Desk}
use Rattle.av_service.specs.Work.{WorkState}
use Rattle.av_service.specs.declared.out.ServiceOut.{ServiceOut}
use Rattle.av_sigset.specs.Publication.{Publication, latest_as, published_as}

-- the service has the version published last, and a version where it is connected; the automaton is the newest set's
pub record IsReady (sets : List Publication) (a : Option Compiled) (d : Desk) : Type 0 where
  pub built : IsBuilt sets a
  pub version : d.version ≡ latest_as sets
  pub versioned : d.connected ≡ true → 1 ≤ d.version

abbrev IsLentBy : Desk → WorkState → Type 0
IsLentBy d k = (k.version ≡ d.version) × (d.connected ≡ true)

no_version : (d : Desk) (k : WorkState) → IsLentBy d k → d.version ≡ 0 → (d.connected ≡ true → 1 ≤ d.version) → ⊥
no_version d k lent is some = omega (arith, is, some lent.1)

met_work : (sets : List Publication) (a : Option Compiled) (d : Desk) → IsReady sets a d → (o : Option WorkState) → Each (IsLentBy d) (option_to_list o) → IsMet o a
met_work sets a d ready None all = tt
met_work [] a d ready (Some k) all = absurd (no_version d k all.0 ready.version ready.versioned)
met_work (p ∷ ps) a d ready (Some k) all = subst (λ (o : Option Compiled). IsMet (Some k) o) (sym ready.built) (sym (all.0.0 ∙ ready.version))

is_published : (p : Publication) (ps : List Publication) (v : ℕ) → v ≡ p.version → published_as (p ∷ ps) v ≡ Some p.patterns
unfolding published_as
is_published p ps v is = let test : (p.version == v) ≡ true = eq-eqb _ _ (sym is) in rw test refl

lent_work : (sets : List Publication) (a : Option Compiled) (d : Desk) → IsReady sets a d → (o : Option WorkState) → Each (IsLentBy d) (option_to_list o) → AreLent sets (option_to_list o) (lent_with o a)
lent_work sets a d ready None all = refl
lent_work [] a d ready (Some k) all = absurd (no_version d k all.0 ready.version ready.versioned)
lent_work (p ∷ ps) a d ready (Some k) all =
    subst (λ (o : Option Compiled). AreLent (p ∷ ps) (k ∷ []) (lent_with (Some k) o)) (sym ready.built) (refl, is_published p ps k.version (all.0.0 ∙ ready.version))

given_works : (out : ServiceOut) (d d' : Desk) (e : ServiceEvent) → Responds out d' (service_step d e) → Each (IsLentBy d) (option_to_list out.work)
given_works out d d' e h = subst (Each (IsLentBy d)) (sym h.works) (LendLemmas.lends.works d e)

pub met : (sets : List Publication) (a : Option Compiled) (d d' : Desk) (e : ServiceEvent) (out : ServiceOut) → IsReady sets a d → Responds out d' (service_step d e) → IsMet out.work a
met sets a d d' e out ready h = met_work sets a d ready out.work (given_works out d d' e h)

pub lent_are : (sets : List Publication) (a : Option Compiled) (d d' : Desk) (e : ServiceEvent) (out : ServiceOut) → IsReady sets a d → Responds out d' (service_step d e) → AreLent sets (service_step d e).works (lent_with out.work a)
lent_are sets a d d' e out ready h = subst (λ (ks : List WorkState). AreLent sets ks (lent_with out.work a)) h.works (lent_work sets a d ready out.work (given_works out d d' e h))
