-- A history that is longer by an event.
use Rattle.std.proofs.Common.{if◌then◌else◌, true, false, ◌≡◌, ◌⊎◌, List, [], ◌∷◌, ◌++◌, refl, sym, ap, ◌∙◌, subst, inl, inr}
use Rattle.av_base.proofs.AmongLemmas.{among_left, among_right}
use Rattle.av_base.specs.Among.{Among}
use Rattle.av_base.specs.Port.{same_port}
use Rattle.av_base.specs.declared.port.Port.{Port}
use Rattle.av_base.specs.declared.port.Port.TheVariants.{One, Two}
use Rattle.av_filter.specs.Audit.{FilterEntry}
use Rattle.av_filter.specs.Conduct.{FilterEvent}
use Rattle.av_filter.specs.Conduct as filter
use Rattle.av_frame.specs.Message.{Letter}
use Rattle.av_service.specs.Audit.{By, Call, ServiceEntry}
use Rattle.av_service.specs.Conduct as service
use Rattle.av_shared.proofs.AmongLemmas.{among_split}
use Rattle.av_shared.specs.Merged.{AreMerged, Brings, Takes, sent_of_filter, sent_of_service}
use Rattle.av_history.specs.Audits.{CameDown, CameUp, IsDelivered, OfFilter, OfService, SideEntry, filter_side, service_side}

-- what the filter had sent after these entries, and the services
abbrev down_after : List Letter → List SideEntry → List Letter
down_after down [] = down
down_after down (OfFilter x ∷ es) = down_after (down ++ x.messages) es
down_after down (OfService port x ∷ es) = down_after down es

abbrev up_after : List Letter → List SideEntry → List Letter
up_after up [] = up
up_after up (OfFilter x ∷ es) = up_after up es
up_after up (OfService port x ∷ es) = up_after (up ++ x.messages) es

-- (of an event that sends, and of one that another side sends)
here_or_after : (m : Letter) (before here after : List Letter) → Among m before ⊎ Among m (here ++ after) → Among m (before ++ here) ⊎ Among m after
here_or_after m before here after (inl a) = inl (among_left m before here a)
here_or_after m before here after (inr a) =
    elim (among_split m here after a) as (λ s. Among m (before ++ here) ⊎ Among m after) [ inl b ↦ inl (among_right m before here b) | inr b ↦ inr b ]

before_or_after : (m : Letter) (before here after : List Letter) → Among m before ⊎ Among m after → Among m (before ++ here) ⊎ Among m after
before_or_after m before here after (inl a) = inl (among_left m before here a)
before_or_after m before here after (inr a) = inr a

down_has : (es : List SideEntry) (m : Letter) (down : List Letter) → Among m down ⊎ Among m (sent_of_filter (filter_side es)) → Among m (down_after down es)
down_has [] m down (inl a) = a
down_has [] m down (inr a) = absurd a
down_has (OfFilter x ∷ es) m down a = down_has es m (down ++ x.messages) (here_or_after m down x.messages (sent_of_filter (filter_side es)) a)
down_has (OfService port x ∷ es) m down a = down_has es m down a

up_has : (port : Port) (es : List SideEntry) (m : Letter) (up : List Letter) → Among m up ⊎ Among m (sent_of_service (service_side port es)) → Among m (up_after up es)
up_has port [] m up (inl a) = a
up_has port [] m up (inr a) = absurd a
up_has port (OfFilter x ∷ es) m up a = up_has port es m up a
up_has port (OfService at x ∷ es) m up a =
    let after : List Letter = sent_of_service (service_side port es) in
    up_has port es m (up ++ x.messages)
    ((elim (same_port at port) as (λ b. Among m up ⊎ Among m (sent_of_service (if b then x ∷ service_side port es else service_side port es)) → Among m (up ++ x.messages) ⊎ Among m after) [
      | true ↦ here_or_after m up x.messages after
      | false ↦ before_or_after m up x.messages after
    ]) a)

-- ---- one entry more

abbrev Comes : List Letter → List Letter → SideEntry → Type 0
Comes down up (OfFilter x) = CameUp up x.event
Comes down up (OfService port x) = CameDown down x.call

delivered_more : (es : List SideEntry) (e : SideEntry) (down up : List Letter) → IsDelivered down up es → Comes (down_after down es) (up_after up es) e → IsDelivered down up (es ++ e ∷ [])
delivered_more [] (OfFilter x) down up h c = (c, tt)
delivered_more [] (OfService port x) down up h c = (c, tt)
delivered_more (OfFilter y ∷ es) e down up h c = (h.0, delivered_more es e (down ++ y.messages) up h.1 c)
delivered_more (OfService port y ∷ es) e down up h c = (h.0, delivered_more es e down (up ++ y.messages) h.1 c)

filter_more : (es : List SideEntry) (x : FilterEntry) → filter_side (es ++ OfFilter x ∷ []) ≡ filter_side es ++ x ∷ []
filter_more [] x = refl
filter_more (OfFilter y ∷ es) x = ap (λ xs. y ∷ xs) (filter_more es x)
filter_more (OfService port y ∷ es) x = filter_more es x

filter_same : (es : List SideEntry) (port : Port) (x : ServiceEntry) → filter_side (es ++ OfService port x ∷ []) ≡ filter_side es
filter_same [] port x = refl
filter_same (OfFilter y ∷ es) port x = ap (λ xs. y ∷ xs) (filter_same es port x)
filter_same (OfService at y ∷ es) port x = filter_same es port x

service_same : (port : Port) (es : List SideEntry) (x : FilterEntry) → service_side port (es ++ OfFilter x ∷ []) ≡ service_side port es
service_same port [] x = refl
service_same port (OfFilter y ∷ es) x = service_same port es x
service_same port (OfService at y ∷ es) x = ap (λ (ys : List ServiceEntry). if same_port at port then y ∷ ys else ys) (service_same port es x)

-- the entries of one port, with an entry more at another one or the same
abbrev pub added : Port → Port → ServiceEntry → List ServiceEntry → List ServiceEntry
added port at x xs = if same_port at port then xs ++ x ∷ [] else xs

added_behind : (port at : Port) (x y : ServiceEntry) (ys : List ServiceEntry) → y ∷ added port at x ys ≡ added port at x (y ∷ ys)
added_behind port at x y ys = elim (same_port at port) as (λ b. y ∷ (if b then ys ++ x ∷ [] else ys) ≡ (if b then (y ∷ ys) ++ x ∷ [] else y ∷ ys)) [ true ↦ refl | false ↦ refl ]

service_more : (port at : Port) (es : List SideEntry) (x : ServiceEntry) → service_side port (es ++ OfService at x ∷ []) ≡ added port at x (service_side port es)
service_more port at [] x = refl
service_more port at (OfFilter y ∷ es) x = service_more port at es x
service_more port at (OfService here y ∷ es) x =
    let more = service_more port at es x in
    elim (same_port here port) as (λ b. (if b then y ∷ service_side port (es ++ OfService at x ∷ []) else service_side port (es ++ OfService at x ∷ [])) ≡ added port at x (if b then y ∷ service_side port es else service_side port es)) [
      | true ↦ ap (λ ys. y ∷ ys) more ∙ added_behind port at x y (service_side port es)
      | false ↦ more
    ]

-- ---- what comes

brought : (e : FilterEvent) (P : Letter → Type 0) (up : List Letter) → ((m : Letter) → P m → Among m up) → Brings P e → CameUp up e
brought (filter.Receives m) P up f h = f m h
brought _ P up f h = tt

took : (c : Call) (P : Letter → Type 0) (down : List Letter) → ((m : Letter) → P m → Among m down) → Takes P c → CameDown down c
took (By (service.Receives m)) P down f h = f m h
took _ P down f h = tt

pub more_of_filter : (xs : List FilterEntry) (ones twos : List ServiceEntry) (x : FilterEntry) → AreMerged xs ones twos
    → Brings (λ m. Among m (sent_of_service ones) ⊎ Among m (sent_of_service twos)) x.event → AreMerged (xs ++ x ∷ []) ones twos
more_of_filter xs ones twos x all brings =
    let es : List SideEntry = all.history in
    let h = all.merge in
    record {
      history = es ++ OfFilter x ∷ [];
      merge = record {
        filter = filter_more es x ∙ ap (λ ys. ys ++ x ∷ []) h.filter;
        one = service_same One es x ∙ h.one;
        two = service_same Two es x ∙ h.two;
        delivered = delivered_more es (OfFilter x) [] [] h.delivered (brought x.event _ (up_after [] es) (λ m s. sent es h.one h.two m s) brings);
      };
    }
  where
    sent : (es : List SideEntry) → service_side One es ≡ ones → service_side Two es ≡ twos → (m : Letter) → Among m (sent_of_service ones) ⊎ Among m (sent_of_service twos) → Among m (up_after [] es)
    sent es one two m (inl a) = up_has One es m [] (inr (subst (λ ys. Among m (sent_of_service ys)) (sym one) a))
    sent es one two m (inr a) = up_has Two es m [] (inr (subst (λ ys. Among m (sent_of_service ys)) (sym two) a))

-- the same of an entry of the service of a port
pub more_of_service : (xs : List FilterEntry) (ones twos : List ServiceEntry) (port : Port) (x : ServiceEntry) → AreMerged xs ones twos
    → Takes (λ m. Among m (sent_of_filter xs)) x.call → AreMerged xs (added One port x ones) (added Two port x twos)
more_of_service xs ones twos port x all takes =
    let es : List SideEntry = all.history in
    let h = all.merge in
    let came : CameDown (down_after [] es) x.call =
    took x.call (λ m. Among m (sent_of_filter xs)) (down_after [] es)
    (λ m a. down_has es m [] (inr (subst (λ ys. Among m (sent_of_filter ys)) (sym h.filter) a))) takes in
    record {
      history = es ++ OfService port x ∷ [];
      merge = record {
        filter = filter_same es port x ∙ h.filter;
        one = service_more One port es x ∙ ap (added One port x) h.one;
        two = service_more Two port es x ∙ ap (added Two port x) h.two;
        delivered = delivered_more es (OfService port x) [] [] h.delivered came;
      };
    }
