-- Where no side can go on, no history has an event that is left: the first of them would go on.
use Rattle.std.proofs.Common.{◌≡◌, ℕ, ◌≤◌, List, [], ◌∷◌, ◌++◌, length, take, drop, sym, ap, ◌∙◌, subst, inl, inr, arith}
use Rattle.std.proofs.lemmas.List.{length-drop, take-append-drop}
use Rattle.av_base.proofs.AmongLemmas.{among_left, among_right}
use Rattle.av_base.specs.Among.{Among}
use Rattle.av_base.specs.declared.port.Port.TheVariants.{One, Two}
use Rattle.av_filter.specs.Audit.{FilterEntry}
use Rattle.av_filter.specs.Conduct.{FilterEvent}
use Rattle.av_filter.specs.Conduct as filter
use Rattle.av_frame.specs.Message.{Letter}
use Rattle.av_service.specs.Audit.{By, Call, ServiceEntry}
use Rattle.av_service.specs.Conduct as service
use Rattle.av_shared.proofs.AmongLemmas.{among_split}
use Rattle.av_shared.specs.Merged.{AreAllTaken, AreMerged, AreStuck, Brings, FilterGoesOn, ServiceGoesOn, Takes, WasSentDown, WasSentUp, sent_of_filter, sent_of_service}
use Rattle.av_shared.specs.declared.merge.Taken.{Taken}
use Rattle.av_history.specs.Audits.{CameDown, CameUp, IsDelivered, OfFilter, OfService, SideEntry, filter_side, service_side}

-- all of these messages were sent by then
abbrev AreSent : (Letter → Type 0) → List Letter → Type 0
AreSent P ms = (m : Letter) → Among m ms → P m

sent_both : (P : Letter → Type 0) (ms ns : List Letter) → AreSent P ms → AreSent P ns → AreSent P (ms ++ ns)
sent_both P ms ns f g m a = elim (among_split m ms ns a) as (λ _. P m) [ inl b ↦ f m b | inr b ↦ g m b ]

sent_first : (P : Letter → Type 0) (ms ns : List Letter) → AreSent P (ms ++ ns) → AreSent P ms
sent_first P ms ns f m a = f m (among_left m ms ns a)

sent_rest : (P : Letter → Type 0) (ms ns : List Letter) → AreSent P (ms ++ ns) → AreSent P ns
sent_rest P ms ns f m a = f m (among_right m ms ns a)

came_up : (P : Letter → Type 0) (up : List Letter) (e : FilterEvent) → AreSent P up → CameUp up e → Brings P e
came_up P up (filter.Receives m) f c = f m c
came_up P up _ f c = tt

came_down : (P : Letter → Type 0) (down : List Letter) (c : Call) → AreSent P down → CameDown down c → Takes P c
came_down P down (By (service.Receives m)) f c = f m c
came_down P down _ f c = tt

first_same : {A : Type 0} (x y : A) (xs ys : List A) → x ∷ xs ≡ y ∷ ys → x ≡ y
first_same x y xs ys e = cc

rest_same : {A : Type 0} (x y : A) (xs ys : List A) → x ∷ xs ≡ y ∷ ys → xs ≡ ys
rest_same x y xs ys e = cc

-- (D, U: what was sent down and up by those that are taken; ra, rb, rc: what is left of the filter's events, and of each service's)
module _ (D U : Letter → Type 0) (ra : List FilterEntry) (rb rc : List ServiceEntry)
    (wa : ¬ FilterGoesOn U ra) (wb : ¬ ServiceGoesOn D rb) (wc : ¬ ServiceGoesOn D rc) where
  none_left : (es : List SideEntry) (down up : List Letter) (ta : List FilterEntry) (tb tc : List ServiceEntry)
      → filter_side es ≡ ta ++ ra → service_side One es ≡ tb ++ rb → service_side Two es ≡ tc ++ rc
      → AreSent D down → AreSent U up → AreSent D (sent_of_filter ta) → AreSent U (sent_of_service tb) → AreSent U (sent_of_service tc)
      → IsDelivered down up es → (ra ≡ []) × (rb ≡ []) × (rc ≡ [])
  none_left [] down up [] [] [] a b c fd fu fa fb fc d = (sym a, sym b, sym c)
  none_left [] down up (t ∷ ta) tb tc a b c fd fu fa fb fc d = absurd (cc)
  none_left [] down up [] (t ∷ tb) tc a b c fd fu fa fb fc d = absurd (cc)
  none_left [] down up [] [] (t ∷ tc) a b c fd fu fa fb fc d = absurd (cc)
  none_left (OfFilter x ∷ es) down up [] tb tc a b c fd fu fa fb fc d =
      absurd (wa (subst (FilterGoesOn U) a (came_up U up x.event fu d.0)))
  none_left (OfFilter x ∷ es) down up (t ∷ ta) tb tc a b c fd fu fa fb fc d =
      let e : x ≡ t = first_same x t (filter_side es) (ta ++ ra) a in
      none_left es (down ++ x.messages) up ta tb tc (rest_same x t (filter_side es) (ta ++ ra) a) b c
      (sent_both D down x.messages fd (subst (λ (y : FilterEntry). AreSent D y.messages) (sym e) (sent_first D t.messages (sent_of_filter ta) fa))) fu
      (sent_rest D t.messages (sent_of_filter ta) fa) fb fc d.1
  none_left (OfService One x ∷ es) down up ta [] tc a b c fd fu fa fb fc d =
      absurd (wb (subst (ServiceGoesOn D) b (came_down D down x.call fd d.0)))
  none_left (OfService One x ∷ es) down up ta (t ∷ tb) tc a b c fd fu fa fb fc d =
      let e : x ≡ t = first_same x t (service_side One es) (tb ++ rb) b in
      none_left es down (up ++ x.messages) ta tb tc a (rest_same x t (service_side One es) (tb ++ rb) b) c fd
      (sent_both U up x.messages fu (subst (λ (y : ServiceEntry). AreSent U y.messages) (sym e) (sent_first U t.messages (sent_of_service tb) fb)))
      fa (sent_rest U t.messages (sent_of_service tb) fb) fc d.1
  none_left (OfService Two x ∷ es) down up ta tb [] a b c fd fu fa fb fc d =
      absurd (wc (subst (ServiceGoesOn D) c (came_down D down x.call fd d.0)))
  none_left (OfService Two x ∷ es) down up ta tb (t ∷ tc) a b c fd fu fa fb fc d =
      let e : x ≡ t = first_same x t (service_side Two es) (tc ++ rc) c in
      none_left es down (up ++ x.messages) ta tb tc a b (rest_same x t (service_side Two es) (tc ++ rc) c) fd
      (sent_both U up x.messages fu (subst (λ (y : ServiceEntry). AreSent U y.messages) (sym e) (sent_first U t.messages (sent_of_service tc) fc)))
      fa fb (sent_rest U t.messages (sent_of_service tc) fc) d.1

all_past : {A : Type 0} (n : ℕ) (xs : List A) → drop n xs ≡ [] → length xs ≤ n
all_past n xs e = let l = length-drop n xs in let z : length (drop n xs) ≡ 0 = ap length e in omega (arith, l, z)

pub stuck_none_left : (xs : List FilterEntry) (ones twos : List ServiceEntry) (n : Taken) → AreMerged xs ones twos → AreStuck xs ones twos n → AreAllTaken xs ones twos n
stuck_none_left xs ones twos n all stuck =
    let h = all.merge in
    let left =
    none_left (WasSentDown xs n.gate) (WasSentUp ones twos n) (drop n.gate xs) (drop n.one ones) (drop n.two twos) stuck.filter stuck.one stuck.two
    all.history [] [] (take n.gate xs) (take n.one ones) (take n.two twos)
    (h.filter ∙ sym (take-append-drop n.gate xs)) (h.one ∙ sym (take-append-drop n.one ones)) (h.two ∙ sym (take-append-drop n.two twos))
    (λ m a. absurd a) (λ m a. absurd a) (λ m a. a) (λ m a. inl a) (λ m a. inr a) h.delivered in
    (all_past n.gate xs left.0, all_past n.one ones left.1, all_past n.two twos left.2)
