-- Bytes that come by reads are heard as one piece.
use Rattle.std.proofs.Common.{◌≡◌, ℕ, List, [], ◌∷◌, ◌++◌, map, refl, sym, ◌∙◌, ap, append_assoc}
use Rattle.std.proofs.lemmas.List.{append-nil}
use Rattle.std.proofs.lemmas.Grind.{flat_map-append}
use Rattle.std.specs.List.{flat_map}
use Rattle.std.specs.Prelude.{None, Some}
use Rattle.av_parts.specs.Course.{Happening, Comes, orders_of}
use Rattle.av_parts.specs.Heard.{Hearing, heard_of, step}
use Rattle.av_parts.specs.Listening.{after}
use Rattle.av_parts.specs.Orders.{Order, bytewise}
use Rattle.av_parts.specs.Serving.{AreHeard, AreOneStream, Read, bytes_of, happened, renewal}
use Rattle.av_parts.proofs.HearLemmas.{cut_anywhere}

comes_then : (os : List Order) (hs : List Happening) → orders_of (map Comes os ++ hs) ≡ os ++ orders_of hs
unfolding orders_of
comes_then [] hs = refl
comes_then (o ∷ os) hs = ap (λ l. o ∷ l) (comes_then os hs)

happened_orders : (r : Read) (hs : List Happening) → orders_of (happened r ++ hs) ≡ r.orders ++ orders_of hs
unfolding orders_of
happened_orders r hs =
    (elim r.newer as (λ o. orders_of ((renewal o ++ map Comes r.orders) ++ hs) ≡ r.orders ++ orders_of hs) [
      | None ↦ comes_then r.orders hs
      | Some set ↦ comes_then r.orders hs
    ])

no_orders : orders_of [] ≡ []
unfolding orders_of
no_orders = refl

pub one_stream : AreOneStream
one_stream was now [] more heard =
    ap (λ h. (h, [])) (sym heard.0)
    ∙ ap (λ l. (now, l)) (sym heard.1)
    ∙ ap (λ os. (now, flat_map bytewise os ++ more)) (sym no_orders)
one_stream was now (r ∷ []) more heard =
    ap (λ l. heard_of l was) (append-nil r.bytes)
    ∙ heard
    ∙ ap (λ os. (now, flat_map bytewise os ++ more)) (sym (happened_orders r [] ∙ ap (λ l. r.orders ++ l) no_orders ∙ append-nil r.orders))
one_stream was now (r ∷ s ∷ reads) more heard =
    let mid = (heard_of r.bytes was).0 in
    let others = one_stream mid now (s ∷ reads) more heard.1 in
    let rest = orders_of (flat_map happened (s ∷ reads)) in
    cut_anywhere step r.bytes (bytes_of (s ∷ reads)) was
    ∙ ap (after (heard_of r.bytes was).1) others
    ∙ ap (λ l. (now, l ++ (flat_map bytewise rest ++ more))) heard.0
    ∙ ap (λ l. (now, l)) (sym (append_assoc (flat_map bytewise r.orders) (flat_map bytewise rest) more))
    ∙ ap (λ l. (now, l ++ more)) (sym (flat_map-append bytewise r.orders rest))
    ∙ ap (λ os. (now, flat_map bytewise os ++ more)) (sym (happened_orders r (flat_map happened (s ∷ reads))))
