-- Bytes that are heard one after another.
use Rattle.std.proofs.Common.{ℕ, suc, nat_eq, false, cond, ◌≡◌, ◌-◌, ◌<◌, ◌≤◌, List, [], ◌∷◌, ◌++◌, length, take, drop, refl, sym, ◌∙◌, ap, arith, append_assoc, drop-cons}
use Rattle.std.specs.Prelude.{Some, None, slice_index}
use Rattle.std.proofs.lemmas.List.{take-append-drop, length-take-le}
use Rattle.std.proofs.lemmas.Bool.Decides.{nat_tests}
use Rattle.av_parts.specs.declared.order_reader.Place.TheVariants as place
use Rattle.av_parts.specs.Orders.{Brings, bytewise, singly}
use Rattle.av_parts.specs.Listening.{IsCutAnywhere, after, hears}
use Rattle.av_parts.specs.Heard
use Rattle.av_parts.specs.WordsHeard
use Rattle.av_parts.specs.declared.fault.OrderFault.{OrderFault}
use Rattle.av_parts.specs.declared.fault.WordFault.{WordFault}

-- ---- however bytes are cut

pub after_after : {S E : Type 0} (first second : List E) (heard : S × List E) → after first (after second heard) ≡ after (first ++ second) heard
after_after first second heard = ap (λ es. (heard.0, es)) (sym (append_assoc first second heard.1))

pub cut_anywhere : {S E : Type 0} (step : ℕ → S → S × List E) → IsCutAnywhere (hears step)
cut_anywhere step [] second s = refl
cut_anywhere step (b ∷ first) second s =
    let turn = step b s in
    ap (after turn.1) (cut_anywhere step first second turn.0)
    ∙ after_after turn.1 (hears step first turn.0).1 (hears step second (hears step first turn.0).0)

-- the bytes from a place on: the one there, and then the others
one_more : {S E : Type 0} (step : ℕ → S → S × List E) (bytes : List ℕ) (i : ℕ) (s : S) → i < length bytes
    → hears step (drop i bytes) s ≡ after (step (slice_index bytes i) s).1 (hears step (drop (suc i) bytes) (step (slice_index bytes i) s).0)
one_more step bytes i s lt = ap (λ xs. hears step xs s) (drop-cons bytes i 0 lt)

-- ---- behind a fault nothing is heard

pub orders_stopped : (bytes : List ℕ) (r : Heard.Hearing) (f : OrderFault) → r.fault ≡ Some f → Heard.heard_of bytes r ≡ (r, [])
unfolding Heard.step
orders_stopped [] r f is = refl
orders_stopped (b ∷ bs) r f is =
    let turn : Heard.step b r ≡ (r, []) = ap (Heard.unless_broken b r) is in
    ap (λ t. after t.1 (Heard.heard_of bs t.0)) turn ∙ ap (after []) (orders_stopped bs r f is)

pub words_stopped : (bytes : List ℕ) (r : WordsHeard.Attending) (f : WordFault) → r.fault ≡ Some f → WordsHeard.heard_of bytes r ≡ (r, [])
unfolding WordsHeard.step
words_stopped [] r f is = refl
words_stopped (b ∷ bs) r f is =
    let turn : WordsHeard.step b r ≡ (r, []) = ap (WordsHeard.unless_broken b r) is in
    ap (λ t. after t.1 (WordsHeard.heard_of bs t.0)) turn ∙ ap (after []) (words_stopped bs r f is)

-- a fault at a byte ends what is heard
pub orders_end : (piece : List ℕ) (i : ℕ) (r first new : Heard.Hearing) (f : OrderFault) → i < length piece → Heard.heard_of (drop i piece) r ≡ Heard.heard_of piece first
    → (new, []) ≡ Heard.step (slice_index piece i) r → new.fault ≡ Some f → (Heard.heard_of piece first ≡ (new, [])) × (new.fault ≡ Some f)
orders_end piece i r first new f lt so_far turn is = (
  sym so_far ∙ one_more Heard.step piece i r lt ∙ ap (λ t. after t.1 (Heard.heard_of (drop (suc i) piece) t.0)) (sym turn)
      ∙ ap (after []) (orders_stopped (drop (suc i) piece) new f is),
  is,
)

pub words_end : (piece : List ℕ) (i : ℕ) (r first new : WordsHeard.Attending) (f : WordFault) → i < length piece → WordsHeard.heard_of (drop i piece) r ≡ WordsHeard.heard_of piece first
    → (new, []) ≡ WordsHeard.step (slice_index piece i) r → new.fault ≡ Some f → (WordsHeard.heard_of piece first ≡ (new, [])) × (new.fault ≡ Some f)
words_end piece i r first new f lt so_far turn is = (
  sym so_far ∙ one_more WordsHeard.step piece i r lt ∙ ap (λ t. after t.1 (WordsHeard.heard_of (drop (suc i) piece) t.0)) (sym turn)
      ∙ ap (after []) (words_stopped (drop (suc i) piece) new f is),
  is,
)

-- ---- bytes of a part at once

part_step : (b n left : ℕ) (r : Heard.Hearing) → r.place ≡ place.Within n left → r.fault ≡ None → Heard.step b r ≡ (record r { place = Heard.within n (left - 1) }, Brings n (b ∷ []) ∷ [])
unfolding Heard.step
part_step b n left r is well = ap (Heard.unless_broken b r) well ∙ ap (Heard.by_place b r) is

still_within : (n left : ℕ) → 2 ≤ left → Heard.within n (left - 1) ≡ place.Within n (left - 1)
still_within n left several =
    let more : nat_eq (left - 1) 0 ≡ false = grind (arith, nat_tests) in
    ap (λ t. cond t place.Front (place.Within n (left - 1))) more

part_all : (b : ℕ) (xs more : List ℕ) (n left : ℕ) (r : Heard.Hearing) → r.place ≡ place.Within n left → r.fault ≡ None → length (b ∷ xs) ≤ left
    → Heard.heard_of (b ∷ xs ++ more) r ≡ after (singly n (b ∷ xs)) (Heard.heard_of more (record r { place = Heard.within n (left - length (b ∷ xs)) }))
part_all b [] more n left r is well few = ap (λ t. after t.1 (Heard.heard_of more t.0)) (part_step b n left r is well)
part_all b (x ∷ xs) more n left r is well few =
    let next : Heard.Hearing = record r { place = Heard.within n (left - 1) } in
    let others = part_all x xs more n (left - 1) next (still_within n left (omega (arith, few))) well (omega (arith, few)) in
    let count : left - 1 - length (x ∷ xs) ≡ left - length (b ∷ x ∷ xs) = omega arith in
    ap (λ t. after t.1 (Heard.heard_of (x ∷ xs ++ more) t.0)) (part_step b n left r is well)
    ∙ ap (after (Brings n (b ∷ []) ∷ [])) others
    ∙ ap (λ k. after (singly n (b ∷ x ∷ xs)) (Heard.heard_of more (record r { place = Heard.within n k }))) count

pub part_front : (xs more : List ℕ) (n left : ℕ) (r : Heard.Hearing) → r.place ≡ place.Within n left → r.fault ≡ None → 1 ≤ length xs → length xs ≤ left
    → after (bytewise (Brings n xs)) (Heard.heard_of more (record r { place = Heard.within n (left - length xs) })) ≡ Heard.heard_of (xs ++ more) r
part_front [] more n left r is well some few = absurd (omega (arith, some))
part_front (b ∷ xs) more n left r is well some few = sym (part_all b xs more n left r is well few)

pub part_heard : (piece : List ℕ) (k n left : ℕ) (r new : Heard.Hearing) → r.place ≡ place.Within n left → r.fault ≡ None → 1 ≤ k → k ≤ left → k ≤ length piece
    → new ≡ record r { place = Heard.within n (left - k) } → after (bytewise (Brings n (take k piece))) (Heard.heard_of (drop k piece) new) ≡ Heard.heard_of piece r
part_heard piece k n left r new is well some few there same =
    let len : length (take k piece) ≡ k = length-take-le k piece there in
    let told = bytewise (Brings n (take k piece)) in
    ap (λ s. after told (Heard.heard_of (drop k piece) s)) same
    ∙ ap (λ j. after told (Heard.heard_of (drop k piece) (record r { place = Heard.within n (left - j) }))) (sym len)
    ∙ part_front (take k piece) (drop k piece) n left r is well (omega (arith, len, some)) (omega (arith, len, few))
    ∙ ap (λ bs. Heard.heard_of bs r) (take-append-drop k piece)
