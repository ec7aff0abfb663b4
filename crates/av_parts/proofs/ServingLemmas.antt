-- A service over a connection, step by step.
use Rattle.std.proofs.Common.{◌≡◌, ℕ, ◌+◌, List, [], ◌∷◌, ◌++◌, drop, drop-drop, Option, Some, None, refl, sym, ◌∙◌, ap, subst}
use Rattle.std.proofs.lemmas.List.{append-nil, map-append}
use Rattle.std.proofs.lemmas.Grind.{flat_map-append}
use Rattle.std.specs.List.{flat_map}
use Rattle.av_parts.specs.Course.{Comes}
use Rattle.av_parts.specs.declared.order.Order.{Order as Sent}
use Rattle.av_parts.specs.Heard.{Hearing, bytewise_of, heard_of}
use Rattle.av_parts.specs.Judge.{Judging}
use Rattle.av_parts.specs.Listening.{after}
use Rattle.av_parts.specs.Orders.{bytewise, order_of}
use Rattle.av_parts.specs.Steps.{HearsFront, Leads}
use Rattle.av_parts.proofs.CourseLemmas.{leads_nowhere, leads_then}
use Rattle.av_parts.proofs.HearLemmas.{after_after}

-- ---- the orders of a piece

pub front_nothing : (piece : List ℕ) (was : Hearing) (j : Judging) (waited : List ℕ) → HearsFront 0 piece was was j j waited waited
front_nothing piece was j waited = record { orders = []; heard = refl; leads = leads_nowhere j waited }

pub front_of_none : (taken : ℕ) (piece : List ℕ) (was now : Hearing) (x : Option Sent) (j : Judging) (waited : List ℕ) → x ≡ None
    → after (bytewise_of x) (heard_of (drop taken piece) now) ≡ heard_of piece was → HearsFront taken piece was now j j waited waited
front_of_none taken piece was now x j waited none heard = record {
  orders = [];
  heard = ap (λ y. after (bytewise_of y) (heard_of (drop taken piece) now)) (sym none) ∙ heard;
  leads = leads_nowhere j waited;
}

pub front_of_one : (taken : ℕ) (piece : List ℕ) (was mid now : Hearing) (x : Option Sent) (s : Sent) (old new : Judging) (waited waits : List ℕ) → x ≡ Some s → now ≡ mid
    → after (bytewise_of x) (heard_of (drop taken piece) mid) ≡ heard_of piece was → Leads (Comes (order_of s) ∷ []) old new waited waits
    → HearsFront taken piece was now old new waited waits
front_of_one taken piece was mid now x s old new waited waits some same heard leads = record {
  orders = order_of s ∷ [];
  heard =
      ap (λ es. after es (heard_of (drop taken piece) now)) (append-nil (bytewise (order_of s)))
      ∙ ap (λ h. after (bytewise (order_of s)) (heard_of (drop taken piece) h)) same
      ∙ ap (λ y. after (bytewise_of y) (heard_of (drop taken piece) mid)) (sym some)
      ∙ heard;
  leads = leads;
}

pub front_then : {at taken : ℕ} {piece : List ℕ} {was mid now : Hearing} {old between new : Judging} {waited waiting waits : List ℕ}
    → HearsFront at piece was mid old between waited waiting → HearsFront taken (drop at piece) mid now between new waiting waits
    → HearsFront (at + taken) piece was now old new waited waits
front_then {at = at} {taken = taken} {piece = piece} {was = was} {mid = mid} {now = now} {old = old} {new = new} {waited = waited} {waits = waits} f g = record {
  orders = f.orders ++ g.orders;
  heard =
      ap (λ p. after (flat_map bytewise (f.orders ++ g.orders)) (heard_of p now)) (sym (drop-drop taken at piece))
      ∙ ap (λ es. after es (heard_of (drop taken (drop at piece)) now)) (flat_map-append bytewise f.orders g.orders)
      ∙ sym (after_after (flat_map bytewise f.orders) (flat_map bytewise g.orders) (heard_of (drop taken (drop at piece)) now))
      ∙ ap (after (flat_map bytewise f.orders)) g.heard
      ∙ f.heard;
  leads = subst (λ hs. Leads hs old new waited waits) (sym (map-append Comes f.orders g.orders)) (leads_then f.leads g.leads);
}
