-- That nothing came over makes one history.
use Rattle.std.proofs.Common.{◌≡◌, Bool, true, false, ◌&&◌, List, [], ◌∷◌, ◌++◌, map, Option, refl, sym, ap, ◌∙◌, if◌then◌else◌}
use Rattle.std.proofs.lemmas.Bool.{true≢false}
use Rattle.std.specs.List.{AllByRecursion as Each, list_all}
use Rattle.av_base.specs.Port.{other, same_port}
use Rattle.av_base.specs.declared.port.Port.{Port}
use Rattle.av_base.specs.declared.port.Port.TheVariants.{One, Two}
use Rattle.av_desk.specs.Audit.{opened_by}
use Rattle.av_desk.specs.declared.audit.Audit.{Audit as DeskAudit}
use Rattle.av_filter.specs.Audit.{FilterEntry}
use Rattle.av_filter.specs.Conduct.{FilterEvent}
use Rattle.av_filter.specs.Conduct as filter
use Rattle.av_frame.specs.Message.{Letter}
use Rattle.av_gate.specs.declared.audit.Audit.{Audit as GateAudit}
use Rattle.av_service.specs.Audit.{By, Call, ServiceEntry, sets_after}
use Rattle.av_service.specs.Conduct as service
use Rattle.av_service.specs.Work.{WorkState}
use Rattle.av_shared.specs.Apart.{are_apart, hears_nothing, one_by_one, takes_nothing}
use Rattle.av_shared.specs.History.{AreOneHistory, events_of, opened_as}
use Rattle.av_sigset.specs.Publication.{Publication}
use Rattle.av_history.specs.Audits.{CameDown, CameUp, FinishesItsWorks, IsDelivered, IsOfWorks, OfFilter, OfService, SideEntry, filter_side, service_side}

-- an event that brings the filter no message, whatever was sent up
abbrev HearsNothing : FilterEvent → Type 0
HearsNothing e = (up : List Letter) → CameUp up e

hears : (e : FilterEvent) → hears_nothing e ≡ true → HearsNothing e
hears (filter.Receives m) h = absurd (true≢false (sym h))
hears _ h = λ up. tt

-- a call that brings the service no message and no work
abbrev TakesNothing : Call → Type 0
TakesNothing c =
    ((down : List Letter) → CameDown down c) × ((sets : List Publication) (works : List WorkState) → IsOfWorks sets works c)

takes : (c : Call) → takes_nothing c ≡ true → TakesNothing c
takes (By (service.Receives m)) h = absurd (true≢false (sym h))
takes (By (service.Finishes lease scan hit)) h = absurd (true≢false (sym h))
takes _ h = (λ down. tt, λ sets works. tt)

-- what passes a test, each by itself
pub each_by : {X : Type 0} (P : X → Type 0) (test : X → Bool) → ((x : X) → test x ≡ true → P x) → (xs : List X) → list_all test xs ≡ true → Each P xs
each_by P test f [] h = tt
each_by P test f (x ∷ xs) h =
    (elim (test x) as (λ b. test x ≡ b → b && list_all test xs ≡ true → P x × Each P xs) [
      | true ↦ λ is g. (f x is, each_by P test f xs g)
      | false ↦ λ is g. absurd (true≢false (sym g))
    ]) refl h

no_filter : (port : Port) (ys : List ServiceEntry) (es : List SideEntry) → filter_side (map (OfService port) ys ++ es) ≡ filter_side es
no_filter port [] es = refl
no_filter port (y ∷ ys) es = no_filter port ys es

no_more : (port : Port) (ys : List ServiceEntry) → filter_side (map (OfService port) ys) ≡ []
no_more port [] = refl
no_more port (y ∷ ys) = no_more port ys

of_filter : (at more : Port) (xs : List FilterEntry) (ys zs : List ServiceEntry) → filter_side (map OfFilter xs ++ (map (OfService at) ys ++ map (OfService more) zs)) ≡ xs
of_filter at more [] ys zs = no_filter at ys _ ∙ no_more more zs
of_filter at more (x ∷ xs) ys zs = ap (λ es. x ∷ es) (of_filter at more xs ys zs)

-- what the entries of a port are among those of both
at_port : (at port : Port) (ys zs : List ServiceEntry) → service_side port (map (OfService at) ys ++ map (OfService (other at)) zs) ≡ (if same_port at port then ys else zs)
at_port One One [] [] = refl
at_port One One [] (z ∷ zs) = at_port One One [] zs
at_port One One (y ∷ ys) zs = ap (λ es. y ∷ es) (at_port One One ys zs)
at_port One Two [] [] = refl
at_port One Two [] (z ∷ zs) = ap (λ es. z ∷ es) (at_port One Two [] zs)
at_port One Two (y ∷ ys) zs = at_port One Two ys zs
at_port Two One [] [] = refl
at_port Two One [] (z ∷ zs) = ap (λ es. z ∷ es) (at_port Two One [] zs)
at_port Two One (y ∷ ys) zs = at_port Two One ys zs
at_port Two Two [] [] = refl
at_port Two Two [] (z ∷ zs) = at_port Two Two [] zs
at_port Two Two (y ∷ ys) zs = ap (λ es. y ∷ es) (at_port Two Two ys zs)

of_service : (port : Port) (xs : List FilterEntry) (es : List SideEntry) → service_side port (map OfFilter xs ++ es) ≡ service_side port es
of_service port [] es = refl
of_service port (x ∷ xs) es = of_service port xs es

delivered_one : (port : Port) (ys : List ServiceEntry) (es : List SideEntry) (down up : List Letter) → Each (λ (y : ServiceEntry). TakesNothing y.call) ys → ((up : List Letter) → IsDelivered down up es) → IsDelivered down up (map (OfService port) ys ++ es)
delivered_one port [] es down up take rest = rest up
delivered_one port (y ∷ ys) es down up take rest = (take.0.0 down, delivered_one port ys es down (up ++ y.messages) take.1 rest)

delivered_last : (port : Port) (ys : List ServiceEntry) (down up : List Letter) → Each (λ (y : ServiceEntry). TakesNothing y.call) ys → IsDelivered down up (map (OfService port) ys)
delivered_last port [] down up take = tt
delivered_last port (y ∷ ys) down up take = (take.0.0 down, delivered_last port ys down (up ++ y.messages) take.1)

delivered : (at more : Port) (xs : List FilterEntry) (ys zs : List ServiceEntry) (down up : List Letter) → Each (λ (x : FilterEntry). HearsNothing x.event) xs → Each (λ (y : ServiceEntry). TakesNothing y.call) ys
    → Each (λ (y : ServiceEntry). TakesNothing y.call) zs → IsDelivered down up (map OfFilter xs ++ (map (OfService at) ys ++ map (OfService more) zs))
delivered at more [] ys zs down up hear take last = delivered_one at ys (map (OfService more) zs) down up take (λ later. delivered_last more zs down later last)
delivered at more (x ∷ xs) ys zs down up hear take last = (hear.0 up, delivered at more xs ys zs (down ++ x.messages) up hear.1 take last)

finishes : (ys : List ServiceEntry) (sets : List Publication) (works : List WorkState) → Each (λ (y : ServiceEntry). TakesNothing y.call) ys → FinishesItsWorks sets works ys
finishes [] sets works take = tt
finishes (y ∷ ys) sets works take = (take.0.1 sets works, finishes ys (sets_after sets y.call) (works ++ y.works) take.1)

pub one_history : (gate : GateAudit) (desk : DeskAudit) (spare : Option DeskAudit) → are_apart gate desk spare ≡ true → AreOneHistory gate desk spare (one_by_one gate desk spare)
one_history gate desk spare apart =
    let xs : List FilterEntry = gate.events.items in
    let ys : List ServiceEntry = desk.events.items in
    let zs : List ServiceEntry = events_of spare in
    let all = and_both (list_all (λ (x : FilterEntry). hears_nothing x.event) xs) _ apart in
    let both = and_both (list_all (λ (y : ServiceEntry). takes_nothing y.call) ys) _ all.1 in
    let hear = each_by (λ (x : FilterEntry). HearsNothing x.event) (λ x. hears_nothing x.event) (λ x h. hears x.event h) xs all.0 in
    let take = each_by (λ (y : ServiceEntry). TakesNothing y.call) (λ y. takes_nothing y.call) (λ y h. takes y.call h) ys both.0 in
    let last = each_by (λ (y : ServiceEntry). TakesNothing y.call) (λ y. takes_nothing y.call) (λ y h. takes y.call h) zs both.1 in
    record {
      merge = record {
        filter = of_filter desk.port (other desk.port) xs ys zs;
        services = λ port. of_service port xs _ ∙ at_port desk.port port ys zs;
        delivered = delivered desk.port (other desk.port) xs ys zs [] [] hear take last;
      };
      works = λ port. works_at (same_port desk.port port) ys zs take last;
    }
  where
    works_at : (here : Bool) (ys zs : List ServiceEntry) → Each (λ (y : ServiceEntry). TakesNothing y.call) ys → Each (λ (y : ServiceEntry). TakesNothing y.call) zs → FinishesItsWorks (if here then opened_by desk else opened_as spare) [] (if here then ys else zs)
    works_at true ys zs take last = finishes ys (opened_by desk) [] take
    works_at false ys zs take last = finishes zs (opened_as spare) [] last

    and_both : (a b : Bool) → (a && b) ≡ true → (a ≡ true) × (b ≡ true)
    and_both true b h = (refl, h)
    and_both false b h = absurd (true≢false (sym h))
