-- Orders that are written are read as themselves.
use Rattle.std.proofs.Common.{ℕ, suc, ◌≡◌, ◌+◌, ◌-◌, ◌<◌, ◌≤◌, ◌^◌, ◌&&◌, List, [], ◌∷◌, ◌++◌, length, take, drop, true, false, cond, not, inl, inr, nat_eq, nat_le, nat_lt, Result, Ok, Err, refl, sym, ◌∙◌, ap, subst, arith, append_assoc}
use Rattle.std.specs.Prelude.{Option, Some, None, slice_index}
use Rattle.std.specs.Int.{w32, from_be_bytes}
use Rattle.std.proofs.lemmas.Nat.{from_be_bytes-to_be_bytes_4, from_be_bytes-to_be_bytes_8}
use Rattle.std.proofs.lemmas.List.{append-nil, get_or-take, length-take-le, take-append-drop, take-append-le, take_all}
use Rattle.std.proofs.lemmas.Bool.{cases_lt, eqb-true, le-ltb, lt-ltb, ltb-true}
use Rattle.std.proofs.lemmas.Bool.Decides.{nat_tests}
use Rattle.av_parts.specs.declared.sizes.TheConstants.{MAX_ORDER, MAX_PART, NUMBER_SIZE, ORDER_FRONT, PART_HEAD}
use Rattle.av_parts.specs.declared.fault.OrderFault.{OrderFault}
use Rattle.av_parts.specs.declared.fault.OrderFault.TheVariants as fault
use Rattle.av_parts.specs.declared.front.Kind.{Kind}
use Rattle.av_parts.specs.declared.front.Kind.TheVariants as kind
use Rattle.av_parts.specs.declared.front.Front.{Front}
use Rattle.av_parts.specs.declared.front.Front.TheVariants as front
use Rattle.av_parts.specs.declared.order_reader.Place.TheVariants as place
use Rattle.av_parts.specs.Heard.{Hearing, by_front, by_place, fits_kind, fresh, front_as, front_by, front_of, front_order, heard_of, kind_of, length_of, place_after, step, unless_broken, within}
use Rattle.av_parts.specs.Listening.{after}
use Rattle.av_parts.specs.Orders.{Order, Begins, Brings, Ends, Drops, bytewise}
use Rattle.av_parts.specs.ReadBack.{KeepsLittle, OrdersAreReadBack}
use Rattle.av_parts.specs.Spelling.{field4, field8, number4, number8, order_body, order_frame}
use Rattle.av_parts.proofs.HearLemmas.{part_front}
use Rattle.av_parts.proofs.SpellLemmas.{length-order_body}

-- ---- what the front of a frame tells, by its facts

early : (bytes : List ℕ) → length bytes < 4 → front_of bytes ≡ Ok None
unfolding front_of
early bytes short = let a : nat_lt (length bytes) 4 ≡ true = lt-ltb _ _ short in rw a refl

-- the first bytes are a length that this kind can have, and then this kind
record IsFront (bytes : List ℕ) (size byte : ℕ) (k : Kind) : Type 0 where
  long : 4 ≤ length bytes
  size_is : number4 bytes 0 ≡ size
  fits : (nat_le NUMBER_SIZE size && nat_le size MAX_ORDER) ≡ true
  byte_is : 5 ≤ length bytes → slice_index bytes 4 ≡ byte
  known : kind_of byte ≡ Some k
  shaped : fits_kind k size ≡ true

by_kind : (bytes : List ℕ) (size byte : ℕ) (k : Kind) → IsFront bytes size byte k → 5 ≤ length bytes → front_of bytes ≡ cond (nat_lt (length bytes) (length_of k)) (Ok None) (Ok (Some (front_as k size bytes)))
unfolding front_of
by_kind bytes size byte k is long =
    let a : nat_lt (length bytes) 4 ≡ false = le-ltb _ _ is.long in
    let b : nat_eq (length bytes) 4 ≡ false = grind (arith, nat_tests, long) in
    rw (a, is.size_is, is.fits, b, is.byte_is long, is.known, is.shaped) refl

bare : (bytes : List ℕ) (size byte : ℕ) (k : Kind) → IsFront bytes size byte k → length bytes ≡ 4 → front_of bytes ≡ Ok None
unfolding front_of
bare bytes size byte k is four =
    let a : nat_lt (length bytes) 4 ≡ false = le-ltb _ _ is.long in
    let b : nat_eq (length bytes) 4 ≡ true = grind (arith, nat_tests, four) in
    rw (a, is.size_is, is.fits, b) refl

-- ---- the bytes of a front one after another

abbrev at_front : List ℕ → Hearing
at_front bytes = record { front = bytes; place = place.Front; fault = None }

abbrev behind : Front → Hearing
behind f = record { front = []; place = place_after f; fault = None }

waits_on : (x : ℕ) (bytes : List ℕ) → front_of (bytes ++ x ∷ []) ≡ Ok None → step x (at_front bytes) ≡ (at_front (bytes ++ x ∷ []), [])
unfolding step
waits_on x bytes is = ap (by_front (bytes ++ x ∷ []) (at_front bytes)) is

tells : (x : ℕ) (bytes : List ℕ) (f : Front) → front_of (bytes ++ x ∷ []) ≡ Ok (Some f) → step x (at_front bytes) ≡ (behind f, front_order f ∷ [])
unfolding step
tells x bytes f is = ap (by_front (bytes ++ x ∷ []) (at_front bytes)) is

reads : (xs bytes more : List ℕ) (f : Front) → 1 ≤ length xs → ((k : ℕ) → 1 ≤ k → k < length xs → front_of (bytes ++ take k xs) ≡ Ok None) → front_of (bytes ++ xs) ≡ Ok (Some f)
    → heard_of (xs ++ more) (at_front bytes) ≡ after (front_order f ∷ []) (heard_of more (behind f))
reads [] bytes more f some waits told = absurd (omega (arith, some))
reads (x ∷ []) bytes more f some waits told = ap (λ t. after t.1 (heard_of more t.0)) (tells x bytes f told)
reads (x ∷ y ∷ ys) bytes more f some waits told =
    let next = bytes ++ x ∷ [] in
    let others = y ∷ ys in
    ap (λ t. after t.1 (heard_of (others ++ more) t.0)) (waits_on x bytes (waits 1 (omega arith) (omega arith)))
    ∙ ap (after []) (reads (y ∷ ys) next more f (omega arith)
    (λ k one few. ap front_of (append_assoc bytes (x ∷ []) (take k others)) ∙ waits (suc k) (omega arith) (omega (arith, few)))
    (ap front_of (append_assoc bytes (x ∷ []) others) ∙ told))

-- the front of a frame of this size and kind
abbrev head : ℕ → ℕ → List ℕ → List ℕ
head size byte rest = field4 size ++ byte ∷ rest

taken_front : (size byte : ℕ) (rest : List ℕ) (k : Kind) (n : ℕ) → size < 2 ^ 32 → (nat_le NUMBER_SIZE size && nat_le size MAX_ORDER) ≡ true → kind_of byte ≡ Some k → fits_kind k size ≡ true
    → 4 ≤ n → n ≤ length (head size byte rest) → IsFront (take n (head size byte rest)) size byte k
unfolding field4
taken_front size byte rest k n small fits known shaped long few =
    let all = head size byte rest in
    let len : length (take n all) ≡ n = length-take-le n all few in
    let first : take 4 (take n all) ≡ take 4 all = sym (take-append-le 4 (take n all) (drop n all) (omega (arith, len, long))) ∙ ap (take 4) (take-append-drop n all) in
    record {
      long = omega (arith, len, long);
      size_is = ap (from_be_bytes w32) first ∙ from_be_bytes-to_be_bytes_4 size small;
      fits = fits;
      byte_is = λ five. get_or-take n all 4 0 (omega (arith, len, five));
      known = known;
      shaped = shaped;
    }

-- .. and waits for more, or tells what it says
front_waits : (all : List ℕ) (size byte : ℕ) (k : Kind) (n : ℕ) → n < length all → length all ≡ length_of k → (4 ≤ n → IsFront (take n all) size byte k) → front_of (take n all) ≡ Ok None
front_waits all size byte k n few whole facts =
    let len : length (take n all) ≡ n = length-take-le n all (omega (arith, few)) in
    elim (cases_lt n 4) [
      | inl short ↦ early (take n all) (omega (arith, len, short))
      | inr four ↦
          elim (cases_lt n 5) [
            | inl only ↦ bare (take n all) size byte k (facts four) (omega (arith, len, four, only))
            | inr five ↦
                let part : nat_lt (length (take n all)) (length_of k) ≡ true = lt-ltb _ _ (omega (arith, len, few, whole)) in
                by_kind (take n all) size byte k (facts four) (omega (arith, len, five)) ∙ ap (λ b. cond b (Ok None) (Ok (Some (front_as k size (take n all))))) part
          ]
    ]

front_told : (all : List ℕ) (size byte : ℕ) (k : Kind) → length all ≡ length_of k → 5 ≤ length all → IsFront all size byte k → front_of all ≡ Ok (Some (front_as k size all))
front_told all size byte k whole five facts =
    let part : nat_lt (length all) (length_of k) ≡ false = le-ltb _ _ (omega (arith, whole)) in
    by_kind all size byte k facts five ∙ ap (λ b. cond b (Ok None) (Ok (Some (front_as k size all)))) part

-- a front that came whole, byte by byte
front_read : (size byte : ℕ) (rest more : List ℕ) (k : Kind) (f : Front) → size < 2 ^ 32 → (nat_le NUMBER_SIZE size && nat_le size MAX_ORDER) ≡ true → kind_of byte ≡ Some k → fits_kind k size ≡ true
    → length (head size byte rest) ≡ length_of k → 5 ≤ length (head size byte rest) → front_as k size (head size byte rest) ≡ f
    → heard_of (head size byte rest ++ more) fresh ≡ after (front_order f ∷ []) (heard_of more (behind f))
front_read size byte rest more k f small fits known shaped len long is =
    let all = head size byte rest in
    let facts : (n : ℕ) → 4 ≤ n → n ≤ length all → IsFront (take n all) size byte k = λ n four few. taken_front size byte rest k n small fits known shaped four few in
    let whole : IsFront all size byte k = subst (λ b. IsFront b size byte k) (take_all (length all) all (omega arith)) (facts (length all) (omega (arith, long)) (omega arith)) in
    reads all [] more f (omega (arith, long))
    (λ n one few. front_waits all size byte k n few len (λ four. facts n four (omega (arith, few))))
    (front_told all size byte k len long whole ∙ ap (λ x. Ok (Some x)) is)

-- ---- each order

begins_read : (n : ℕ) → n < 2 ^ 64 → heard_of (head 9 16 (field8 n)) fresh ≡ (fresh, Begins n ∷ [])
unfolding field4 field8
begins_read n fits =
    let number : number8 (head 9 16 (field8 n)) 5 ≡ n = from_be_bytes-to_be_bytes_8 n fits in
    front_read 9 16 (field8 n) [] kind.Begin (front.Begin n) (omega arith) refl refl refl refl (omega arith) (ap front.Begin number)

drops_read : (n : ℕ) → n < 2 ^ 64 → heard_of (head 9 19 (field8 n)) fresh ≡ (fresh, Drops n ∷ [])
unfolding field4 field8
drops_read n fits =
    let number : number8 (head 9 19 (field8 n)) 5 ≡ n = from_be_bytes-to_be_bytes_8 n fits in
    front_read 9 19 (field8 n) [] kind.Drop (front.Drop n) (omega arith) refl refl refl refl (omega arith) (ap front.Drop number)

ends_read : (n count : ℕ) → n < 2 ^ 64 → count < 2 ^ 64 → heard_of (head 17 18 (field8 n ++ field8 count)) fresh ≡ (fresh, Ends n count ∷ [])
unfolding field4 field8
ends_read n count fits counted =
    let rest = field8 n ++ field8 count in
    let number : number8 (head 17 18 rest) 5 ≡ n = from_be_bytes-to_be_bytes_8 n fits in
    let total : number8 (head 17 18 rest) 13 ≡ count = from_be_bytes-to_be_bytes_8 count counted in
    front_read 17 18 rest [] kind.End (front.End n count) (omega arith) refl refl refl refl (omega arith)
    (ap (λ m. front.End m (number8 (head 17 18 rest) 13)) number ∙ ap (front.End n) total)

part_read : (n : ℕ) (some : List ℕ) → n < 2 ^ 64 → 1 ≤ length some → length some ≤ MAX_PART → heard_of (head (9 + length some) 17 (field8 n) ++ some) fresh ≡ (fresh, Brings n [] ∷ bytewise (Brings n some))
unfolding field4 field8
part_read n some fits one few =
    let size = 9 + length some in
    let all = head size 17 (field8 n) in
    let number : number8 all 5 ≡ n = from_be_bytes-to_be_bytes_8 n fits in
    let left : size - PART_HEAD ≡ length some = omega arith in
    let f = front.Part n (length some) in
    let low : nat_le NUMBER_SIZE size ≡ true = grind (arith, nat_tests, one) in
    let high : nat_le size MAX_ORDER ≡ true = grind (arith, nat_tests, few) in
    let above : nat_lt PART_HEAD size ≡ true = lt-ltb _ _ (omega (arith, one)) in
    let most : length some < 2 ^ 32 = omega (arith, few) in
    let begun : within n (length some) ≡ place.Within n (length some) = ap (λ b. cond b place.Front (place.Within n (length some))) (let e : nat_eq (length some) 0 ≡ false = grind (arith, nat_tests, one) in e) in
    let r : Hearing = record { front = []; place = within n (length some); fault = None } in
    let done : record r { place = within n (length some - length some) } ≡ fresh = ap (λ k. record r { place = within n k }) (let e : length some - length some ≡ 0 = omega arith in e) in
    front_read size 17 (field8 n) some kind.Part f (omega (arith, few)) (ap (λ b. b && nat_le size MAX_ORDER) low ∙ high) refl (ap (λ b. b && nat_le size MAX_ORDER) above ∙ high) refl (omega arith)
    (ap (λ m. front.Part m (size - PART_HEAD)) number ∙ ap (front.Part n) left)
    ∙ ap (after (Brings n [] ∷ [])) (
    ap (λ bs. heard_of bs r) (sym (append-nil some))
    ∙ sym (part_front some [] n (length some) r begun refl one (omega arith))
    ∙ ap (λ s. (s, bytewise (Brings n some) ++ [])) done
    ∙ ap (λ os. (fresh, os)) (append-nil (bytewise (Brings n some))))

begins_back : (n : ℕ) → n < 2 ^ 64 → heard_of (order_frame (Begins n)) fresh ≡ (fresh, Begins n ∷ [])
unfolding field4 field8
begins_back n fits = begins_read n fits

drops_back : (n : ℕ) → n < 2 ^ 64 → heard_of (order_frame (Drops n)) fresh ≡ (fresh, Drops n ∷ [])
unfolding field4 field8
drops_back n fits = drops_read n fits

ends_back : (n count : ℕ) → n < 2 ^ 64 → count < 2 ^ 64 → heard_of (order_frame (Ends n count)) fresh ≡ (fresh, Ends n count ∷ [])
unfolding field4 field8
ends_back n count fits counted = ends_read n count fits counted

part_back : (n : ℕ) (some : List ℕ) → n < 2 ^ 64 → 1 ≤ length some → length some ≤ MAX_PART
    → heard_of (field4 (9 + length some) ++ order_body (Brings n some)) fresh ≡ (fresh, Brings n [] ∷ bytewise (Brings n some))
unfolding field4 field8
part_back n some fits one few = part_read n some fits one few

pub orders_are_read_back : OrdersAreReadBack
orders_are_read_back (Begins n) fits = begins_back n fits
orders_are_read_back (Brings n some) fits =
    ap (λ k. heard_of (field4 k ++ order_body (Brings n some)) fresh) (length-order_body (Brings n some)) ∙ part_back n some fits.0 fits.1 fits.2
orders_are_read_back (Ends n count) fits = ends_back n count fits.0 fits.1
orders_are_read_back (Drops n) fits = drops_back n fits

-- ---- little is kept

most : (k : Kind) → length_of k ≤ ORDER_FRONT
most kind.Begin = omega arith
most kind.Part = omega arith
most kind.End = omega arith
most kind.Drop = omega arith

no_fault : (f : OrderFault) → ◌≡◌ {A = Result (Option Front) OrderFault} (Err f) (Ok None) → ⊥
no_fault f e = absurd cc

no_front : (f : Front) → ◌≡◌ {A = Result (Option Front) OrderFault} (Ok (Some f)) (Ok None) → ⊥
no_front f e = absurd cc

front_by_short : (k : Option Kind) (size : ℕ) (bytes : List ℕ) → front_by k size bytes ≡ Ok None → length bytes < ORDER_FRONT
front_by_short None size bytes is = absurd (no_fault fault.Kind is)
front_by_short (Some k) size bytes is =
    let waits : Result (Option Front) OrderFault = Ok None in
    let tells : Result (Option Front) OrderFault = Ok (Some (front_as k size bytes)) in
    let wrong : Result (Option Front) OrderFault = Err fault.Shape in
    (elim (fits_kind k size) as (λ b. cond (not b) wrong (cond (nat_lt (length bytes) (length_of k)) waits tells) ≡ waits → length bytes < ORDER_FRONT) [
      | false ↦ λ e. absurd (no_fault fault.Shape e)
      | true ↦
          (elim (nat_lt (length bytes) (length_of k)) as (λ b. nat_lt (length bytes) (length_of k) ≡ b → cond b waits tells ≡ waits → length bytes < ORDER_FRONT) [
            | true ↦ λ short e. omega (arith, ltb-true _ _ short, most k)
            | false ↦ λ long e. absurd (no_front (front_as k size bytes) e)
          ]) refl
    ]) is

front_short : (bytes : List ℕ) → front_of bytes ≡ Ok None → length bytes < ORDER_FRONT
unfolding front_of
front_short bytes is =
    let size = number4 bytes 0 in
    let rest : Result (Option Front) OrderFault = front_by (kind_of (slice_index bytes 4)) size bytes in
    (elim (nat_lt (length bytes) 4) as (λ b. nat_lt (length bytes) 4 ≡ b → cond b (Ok None) (cond (not (nat_le NUMBER_SIZE size && nat_le size MAX_ORDER)) (Err fault.Length) (cond (nat_eq (length bytes) 4) (Ok None) rest)) ≡ Ok None → length bytes < ORDER_FRONT) [
      | true ↦ λ short e. omega (arith, ltb-true _ _ short)
      | false ↦ λ long.
          elim (nat_le NUMBER_SIZE size && nat_le size MAX_ORDER) as (λ b. cond (not b) (Err fault.Length) (cond (nat_eq (length bytes) 4) (Ok None) rest) ≡ Ok None → length bytes < ORDER_FRONT) [
            | false ↦ λ e. absurd (no_fault fault.Length e)
            | true ↦
                (elim (nat_eq (length bytes) 4) as (λ b. nat_eq (length bytes) 4 ≡ b → cond b (Ok None) rest ≡ Ok None → length bytes < ORDER_FRONT) [
                  | true ↦ λ four e. omega (arith, eqb-true _ _ four)
                  | false ↦ λ more e. front_by_short (kind_of (slice_index bytes 4)) size bytes e
                ]) refl
          ]
    ]) refl is

abbrev IsShort : Hearing × List Order → Type 0
IsShort turn = let r = turn.0 in length r.front < ORDER_FRONT

step_short : (b : ℕ) (r : Hearing) → length r.front < ORDER_FRONT → IsShort (step b r)
unfolding step
step_short b r few =
    let bytes = r.front ++ b ∷ [] in
    elim r.fault as (λ f. IsShort (unless_broken b r f)) [
      | Some f ↦ few
      | None ↦ elim r.place as (λ p. IsShort (by_place b r p)) [
        | place.Within n left ↦ few
        | place.Front ↦ (elim (front_of bytes) as (λ o. front_of bytes ≡ o → IsShort (by_front bytes r o)) [
          | Ok None ↦ λ is. front_short bytes is
          | Ok (Some f) ↦ λ is. omega arith
          | Err f ↦ λ is. omega arith
        ]) refl
      ]
    ]

pub keeps_little : KeepsLittle
keeps_little [] r few = few
keeps_little (b ∷ bytes) r few = keeps_little bytes (step b r).0 (step_short b r few)
