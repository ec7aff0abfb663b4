-- What a client says that may send contents in parts: bytes that are heard one after another.
use Rattle.std.proofs.Common.{ℕ, suc, ◌≡◌, ◌+◌, ◌-◌, ◌<◌, ◌≤◌, ◌&&◌, List, [], ◌∷◌, ◌++◌, length, take, drop, true, false, cond, not, inl, inr, nat_eq, nat_le, nat_lt, Result, Ok, Err, refl, sym, ◌∙◌, ap, arith, append_assoc, length-append}
use Rattle.std.specs.Prelude.{Option, Some, None, max, min, slice_index}
use Rattle.std.specs.Int.{w32, from_be_bytes}
use Rattle.std.proofs.lemmas.List.{get_or_append_left, length-take-le, take-append-drop, take-append-le}
use Rattle.std.proofs.lemmas.Bool.{cases_lt, le-ltb, lt-ltb, ltb-true}
use Rattle.std.proofs.lemmas.Bool.Decides.{nat_tests}
use Rattle.av_asks.specs.declared.client_reader.Content.{Content}
use Rattle.av_asks.specs.declared.fault.ClientFault.{ClientFault}
use Rattle.av_asks.specs.declared.fault.ClientFault.TheVariants as fault
use Rattle.av_asks.specs.declared.large_head.LargeKind.{LargeKind}
use Rattle.av_asks.specs.declared.sizes.TheConstants.{ASK_HEAD, MAX_ASK}
use Rattle.av_asks.specs.Contents.{Saying, Brings, bytewise, singly}
use Rattle.av_asks.specs.Speaking.{Speaking, Turn, after, by_content, by_front, by_turn, fits_kind, front_by, front_of, fronted, gone_on, heard_of, kind_of, left_of, length_of, said_by, step, unless_broken, wanted_of}
use Rattle.av_base.specs.declared.refusal.Refusal.{Refusal}
use Rattle.av_base.specs.declared.refusal.Refusal.TheVariants.{Fault}
use Rattle.av_asks.specs.Spelling.{number4}

-- ---- a front that waits

-- what is told as long as bytes are few
abbrev pub Fronts : Type 0
Fronts = Result (Option (LargeKind × ℕ)) ClientFault

no_fault : (f : ClientFault) → ◌≡◌ {A = Fronts} (Err f) (Ok None) → ⊥
no_fault f e = absurd cc

no_front : (p : LargeKind × ℕ) → ◌≡◌ {A = Fronts} (Ok (Some p)) (Ok None) → ⊥
no_front p e = absurd cc

-- a front that waits is short, or has a kind and a length that go together
pub record Waits (bytes : List ℕ) (k : LargeKind) : Type 0 where
  pub known : kind_of (slice_index bytes 4) ≡ Some k
  pub shaped : fits_kind k (number4 bytes) ≡ true
  pub few : length bytes < length_of k (number4 bytes)

by_kind : (o : Option LargeKind) (size len : ℕ) → front_by o size len ≡ Ok None → (k : LargeKind) × (o ≡ Some k) × (fits_kind k size ≡ true) × (len < length_of k size)
by_kind None size len is = absurd (no_fault fault.Kind is)
by_kind (Some k) size len is =
    let waits : Fronts = Ok None in
    let tells : Fronts = Ok (Some (k, size)) in
    let wrong : Fronts = Err fault.Shape in
    (elim (fits_kind k size) as (λ b. fits_kind k size ≡ b → cond (not b) wrong (cond (nat_lt len (length_of k size)) waits tells) ≡ waits → (j : LargeKind) × (Some k ≡ Some j) × (fits_kind j size ≡ true) × (len < length_of j size)) [
      | false ↦ λ f e. absurd (no_fault fault.Shape e)
      | true ↦ λ f.
          (elim (nat_lt len (length_of k size)) as (λ b. nat_lt len (length_of k size) ≡ b → cond b waits tells ≡ waits → (j : LargeKind) × (Some k ≡ Some j) × (fits_kind j size ≡ true) × (len < length_of j size)) [
            | true ↦ λ short e. (k, refl, f, ltb-true _ _ short)
            | false ↦ λ long e. absurd (no_front (k, size) e)
          ]) refl
    ]) refl is

-- a front of more than four bytes that waits
record Long (bytes : List ℕ) : Type 0 where
  fits : (nat_le ASK_HEAD (number4 bytes) && nat_le (number4 bytes) MAX_ASK) ≡ true
  kind : LargeKind
  waits : Waits bytes kind

long_waits : (bytes : List ℕ) → 5 ≤ length bytes → front_of bytes ≡ Ok None → Long bytes
unfolding front_of
long_waits bytes long is =
    let size = number4 bytes in
    let waits : Fronts = Ok None in
    let wrong : Fronts = Err fault.Length in
    let rest : Fronts = front_by (kind_of (slice_index bytes 4)) size (length bytes) in
    let a : nat_lt (length bytes) 4 ≡ false = le-ltb _ _ (omega (arith, long)) in
    let b : nat_eq (length bytes) 4 ≡ false = grind (arith, nat_tests, long) in
    let inner : cond (not (nat_le ASK_HEAD size && nat_le size MAX_ASK)) wrong (cond (nat_eq (length bytes) 4) waits rest) ≡ waits =
    sym (ap (λ t. cond t waits (cond (not (nat_le ASK_HEAD size && nat_le size MAX_ASK)) wrong (cond (nat_eq (length bytes) 4) waits rest))) a) ∙ is in
    (elim (nat_le ASK_HEAD size && nat_le size MAX_ASK) as (λ t. (nat_le ASK_HEAD size && nat_le size MAX_ASK) ≡ t → cond (not t) wrong (cond (nat_eq (length bytes) 4) waits rest) ≡ waits → Long bytes) [
      | false ↦ λ f e. absurd (no_fault fault.Length e)
      | true ↦ λ f e.
          let kinds : rest ≡ waits = sym (ap (λ t. cond t waits rest) b) ∙ e in
          let k = by_kind (kind_of (slice_index bytes 4)) size (length bytes) kinds in
          record { fits = f; kind = k.0; waits = record { known = k.1; shaped = k.2; few = k.3 } }
    ]) refl inner

pub wanted_long : (bytes : List ℕ) (k : LargeKind) → 5 ≤ length bytes → kind_of (slice_index bytes 4) ≡ Some k → wanted_of bytes ≡ length_of k (number4 bytes)
unfolding wanted_of
wanted_long bytes k long known =
    let a : nat_lt (length bytes) 4 ≡ false = le-ltb _ _ (omega (arith, long)) in
    let b : nat_eq (length bytes) 4 ≡ false = grind (arith, nat_tests, long) in
    rw (a, b, known) refl

pub wanted_four : (bytes : List ℕ) → length bytes ≡ 4 → wanted_of bytes ≡ 5
unfolding wanted_of
wanted_four bytes four =
    let a : nat_lt (length bytes) 4 ≡ false = le-ltb _ _ (omega (arith, four)) in
    let b : nat_eq (length bytes) 4 ≡ true = grind (arith, nat_tests, four) in
    rw (a, b) refl

pub wanted_few : (bytes : List ℕ) → length bytes < 4 → wanted_of bytes ≡ 4
unfolding wanted_of
wanted_few bytes few = let a : nat_lt (length bytes) 4 ≡ true = lt-ltb _ _ few in rw a refl

pub front_few : (bytes : List ℕ) → length bytes < 4 → front_of bytes ≡ Ok None
unfolding front_of
front_few bytes few = let a : nat_lt (length bytes) 4 ≡ true = lt-ltb _ _ few in rw a refl

pub front_long : (bytes : List ℕ) (k : LargeKind) → 5 ≤ length bytes → (nat_le ASK_HEAD (number4 bytes) && nat_le (number4 bytes) MAX_ASK) ≡ true → Waits bytes k → front_of bytes ≡ Ok None
unfolding front_of
front_long bytes k long fits is =
    let a : nat_lt (length bytes) 4 ≡ false = le-ltb _ _ (omega (arith, long)) in
    let b : nat_eq (length bytes) 4 ≡ false = grind (arith, nat_tests, long) in
    let c : nat_lt (length bytes) (length_of k (number4 bytes)) ≡ true = lt-ltb _ _ is.few in
    rw (a, fits, b, is.known, is.shaped, c) refl

-- .. wants more than it has
pub waits_wanted : (bytes : List ℕ) → front_of bytes ≡ Ok None → length bytes < wanted_of bytes
waits_wanted bytes is =
    elim (cases_lt (length bytes) 4) [
      | inl few ↦ omega (arith, few, wanted_few bytes few)
      | inr four ↦
          elim (cases_lt (length bytes) 5) [
            | inl only ↦ omega (arith, only, four, wanted_four bytes (omega (arith, only, four)))
            | inr long ↦
                let l = long_waits bytes long is in
                let w = l.waits in
                omega (arith, wanted_long bytes l.kind long w.known, w.few)
          ]
    ]

number4-more : (bytes : List ℕ) (b : ℕ) → 4 ≤ length bytes → number4 (bytes ++ b ∷ []) ≡ number4 bytes
number4-more bytes b long = ap (from_be_bytes w32) (take-append-le 4 bytes (b ∷ []) long)

byte4-more : (bytes : List ℕ) (b : ℕ) → 5 ≤ length bytes → slice_index (bytes ++ b ∷ []) 4 ≡ slice_index bytes 4
byte4-more bytes b long = get_or_append_left bytes (b ∷ []) 0 4 (omega (arith, long))

-- a byte more of a front that wants several waits on, and wants as many
record StillWaits (bytes : List ℕ) (b : ℕ) : Type 0 where
  front : front_of (bytes ++ b ∷ []) ≡ Ok None
  wanted : wanted_of (bytes ++ b ∷ []) ≡ wanted_of bytes

still_waits : (bytes : List ℕ) (b : ℕ) → front_of bytes ≡ Ok None → length bytes + 1 < wanted_of bytes → StillWaits bytes b
still_waits bytes b is several =
    let more = bytes ++ b ∷ [] in
    let len : length more ≡ length bytes + 1 = length-append bytes (b ∷ []) in
    elim (cases_lt (length bytes) 4) [
      | inl few ↦
          let short : length more < 4 = omega (arith, len, several, wanted_few bytes few) in
          record { front = front_few more short; wanted = wanted_few more short ∙ sym (wanted_few bytes few) }
      | inr four ↦
          elim (cases_lt (length bytes) 5) [
            | inl only ↦ absurd (omega (arith, several, wanted_four bytes (omega (arith, only, four)), four))
            | inr long ↦
                let l = long_waits bytes long is in
                let w = l.waits in
                let n = number4-more bytes b four in
                let known : kind_of (slice_index more 4) ≡ Some l.kind = ap kind_of (byte4-more bytes b long) ∙ w.known in
                let want = wanted_long bytes l.kind long w.known in
                let same : length_of l.kind (number4 more) ≡ length_of l.kind (number4 bytes) = ap (length_of l.kind) n in
                let fits : (nat_le ASK_HEAD (number4 more) && nat_le (number4 more) MAX_ASK) ≡ true = ap (λ m. nat_le ASK_HEAD m && nat_le m MAX_ASK) n ∙ l.fits in
                let longer : 5 ≤ length more = omega (arith, len, long) in
                let waits : Waits more l.kind = record { known = known; shaped = ap (fits_kind l.kind) n ∙ w.shaped; few = omega (arith, len, several, want, same) } in
                record { front = front_long more l.kind longer fits waits; wanted = wanted_long more l.kind longer known ∙ same ∙ sym want }
          ]
    ]

-- ---- a byte at a front

front_step : (b : ℕ) (s : Speaking) → s.fault ≡ None → left_of s.content ≡ 0 → step b s ≡ fronted (s.front ++ b ∷ []) s
unfolding step
front_step b s well none =
    ap (unless_broken b s) well
    ∙ (elim s.content as (λ c. left_of c ≡ 0 → by_content b s c ≡ fronted (s.front ++ b ∷ []) s) [
      | None ↦ λ e. refl
      | Some c ↦ λ e.
          let no_more : nat_lt 0 c.left ≡ false = le-ltb _ _ (omega (arith, e)) in
          ap (λ t. cond t (record s { content = Some (gone_on 1 c) }, Brings c.tag (b ∷ []) ∷ []) (fronted (s.front ++ b ∷ []) s)) no_more
    ]) none

pub waits_on : (bytes : List ℕ) (s : Speaking) → front_of bytes ≡ Ok None → fronted bytes s ≡ (record s { front = bytes }, [])
unfolding fronted
waits_on bytes s is = ap (by_front bytes s) is

fronted_same : (bytes : List ℕ) (s : Speaking) (front : List ℕ) → fronted bytes (record s { front = front }) ≡ fronted bytes s
unfolding fronted
fronted_same bytes s front =
    elim (front_of bytes) as (λ o. by_front bytes (record s { front = front }) o ≡ by_front bytes s o) [
      | Ok None ↦ refl
      | Ok (Some p) ↦ elim (said_by p.0 p.1 (drop 4 bytes) s.content) as (λ t. by_turn (record s { front = front }) t ≡ by_turn s t) [
        | Ok q ↦ refl
        | Err f ↦ refl
      ]
      | Err f ↦ refl
    ]

-- ---- bytes of a front at once

pub bulk : (xs more : List ℕ) (s : Speaking) → s.fault ≡ None → left_of s.content ≡ 0 → front_of s.front ≡ Ok None → 1 ≤ length xs → length s.front + length xs ≤ wanted_of s.front
    → heard_of (xs ++ more) s ≡ (let t = fronted (s.front ++ xs) s in after t.1 (heard_of more t.0))
bulk [] more s well none waits some few = absurd (omega (arith, some))
bulk (x ∷ []) more s well none waits some few = ap (λ t. after t.1 (heard_of more t.0)) (front_step x s well none)
bulk (x ∷ y ∷ ys) more s well none waits some few =
    let next = s.front ++ x ∷ [] in
    let still = still_waits s.front x waits (omega (arith, few)) in
    let t : Speaking = record s { front = next } in
    let len : length next ≡ length s.front + 1 = length-append s.front (x ∷ []) in
    ap (λ u. after u.1 (heard_of (y ∷ ys ++ more) u.0)) (front_step x s well none ∙ waits_on next s still.front)
    ∙ ap (after []) (bulk (y ∷ ys) more t well none still.front (omega arith) (omega (arith, few, len, still.wanted)))
    ∙ ap (λ u. after u.1 (heard_of more u.0)) (fronted_same (next ++ (y ∷ ys)) s next ∙ ap (λ bs. fronted bs s) (append_assoc s.front (x ∷ []) (y ∷ ys)))

pub bulk_heard : (k : ℕ) (piece : List ℕ) (s : Speaking) → s.fault ≡ None → left_of s.content ≡ 0 → front_of s.front ≡ Ok None → 1 ≤ k → k ≤ length piece → length s.front + k ≤ wanted_of s.front
    → heard_of piece s ≡ (let t = fronted (s.front ++ take k piece) s in after t.1 (heard_of (drop k piece) t.0))
bulk_heard k piece s well none waits some there few =
    let len : length (take k piece) ≡ k = length-take-le k piece there in
    ap (λ bs. heard_of bs s) (sym (take-append-drop k piece)) ∙ bulk (take k piece) (drop k piece) s well none waits (omega (arith, len, some)) (omega (arith, len, few))

-- ---- behind a fault nothing is heard

pub stopped : (bytes : List ℕ) (s : Speaking) (f : ClientFault) → s.fault ≡ Some f → heard_of bytes s ≡ (s, [])
unfolding step
stopped [] s f is = refl
stopped (b ∷ bs) s f is =
    let turn : step b s ≡ (s, []) = ap (unless_broken b s) is in
    ap (λ t. after t.1 (heard_of bs t.0)) turn ∙ ap (after []) (stopped bs s f is)

-- ---- bytes of a part at once

part_step : (b : ℕ) (c : Content) (s : Speaking) → s.content ≡ Some c → s.fault ≡ None → 1 ≤ c.left → step b s ≡ (record s { content = Some (gone_on 1 c) }, Brings c.tag (b ∷ []) ∷ [])
unfolding step
part_step b c s is well some =
    let more : nat_lt 0 c.left ≡ true = lt-ltb _ _ (omega (arith, some)) in
    ap (unless_broken b s) well ∙ ap (by_content b s) is
    ∙ ap (λ t. cond t (record s { content = Some (gone_on 1 c) }, Brings c.tag (b ∷ []) ∷ []) (fronted (s.front ++ b ∷ []) s)) more

gone_twice : (n : ℕ) (c : Content) → gone_on n (gone_on 1 c) ≡ gone_on (suc n) c
gone_twice n c =
    let counts : c.count + 1 + n ≡ c.count + suc n = omega arith in
    let lefts : c.left - 1 - n ≡ c.left - suc n = omega arith in
    ap (λ m. record c { count = m; left = c.left - 1 - n }) counts ∙ ap (λ m. record c { count = c.count + suc n; left = m }) lefts

part_all : (b : ℕ) (xs more : List ℕ) (c : Content) (s : Speaking) → s.content ≡ Some c → s.fault ≡ None → length (b ∷ xs) ≤ c.left
    → heard_of (b ∷ xs ++ more) s ≡ after (singly c.tag (b ∷ xs)) (heard_of more (record s { content = Some (gone_on (length (b ∷ xs)) c) }))
part_all b [] more c s is well few = ap (λ t. after t.1 (heard_of more t.0)) (part_step b c s is well (omega (arith, few)))
part_all b (x ∷ xs) more c s is well few =
    let next : Speaking = record s { content = Some (gone_on 1 c) } in
    let others = part_all x xs more (gone_on 1 c) next refl well (omega (arith, few)) in
    ap (λ t. after t.1 (heard_of (x ∷ xs ++ more) t.0)) (part_step b c s is well (omega (arith, few)))
    ∙ ap (after (Brings c.tag (b ∷ []) ∷ [])) others
    ∙ ap (λ d. after (singly c.tag (b ∷ x ∷ xs)) (heard_of more (record s { content = Some d }))) (gone_twice (length (x ∷ xs)) c)

pub part_front : (xs more : List ℕ) (c : Content) (s : Speaking) → s.content ≡ Some c → s.fault ≡ None → 1 ≤ length xs → length xs ≤ c.left
    → after (bytewise (Brings c.tag xs)) (heard_of more (record s { content = Some (gone_on (length xs) c) })) ≡ heard_of (xs ++ more) s
part_front [] more c s is well some few = absurd (omega (arith, some))
part_front (b ∷ xs) more c s is well some few = sym (part_all b xs more c s is well few)

pub part_heard : (piece : List ℕ) (k : ℕ) (c : Content) (s new : Speaking) → s.content ≡ Some c → s.fault ≡ None → 1 ≤ k → k ≤ c.left → k ≤ length piece
    → new ≡ record s { content = Some (gone_on k c) } → after (bytewise (Brings c.tag (take k piece))) (heard_of (drop k piece) new) ≡ heard_of piece s
part_heard piece k c s new is well some few there same =
    let len : length (take k piece) ≡ k = length-take-le k piece there in
    let told = bytewise (Brings c.tag (take k piece)) in
    ap (λ n. after told (heard_of (drop k piece) n)) same
    ∙ ap (λ j. after told (heard_of (drop k piece) (record s { content = Some (gone_on j c) }))) (sym len)
    ∙ part_front (take k piece) (drop k piece) c s is well (omega (arith, len, some)) (omega (arith, len, few))
    ∙ ap (λ bs. heard_of bs s) (take-append-drop k piece)

-- ---- what holds of a reader

-- an empty front waits
pub empty_waits : (front : List ℕ) {C : Type 0} → front ≡ [] → C → (front_of front ≡ Ok None) × (length front < 4 + MAX_ASK) × C
empty_waits front is counted =
    let none : length front ≡ 0 = ap length is in
    (front_few front (omega (arith, none)), omega (arith, none), counted)

-- what bytes of a front say is what all say, and what the rest says
pub told_heard : (k : ℕ) (piece : List ℕ) (s new : Speaking) (said : List Saying) → s.fault ≡ None → left_of s.content ≡ 0 → front_of s.front ≡ Ok None → 1 ≤ k → k ≤ length piece → length s.front + k ≤ wanted_of s.front
    → fronted (s.front ++ take k piece) s ≡ (new, said) → after said (heard_of (drop k piece) new) ≡ heard_of piece s
told_heard k piece s new said well none waits some there few is =
    sym (bulk_heard k piece s well none waits some there few ∙ ap (λ t. after t.1 (heard_of (drop k piece) t.0)) is)

pub fault_heard : (k : ℕ) (piece : List ℕ) (s new : Speaking) (f : ClientFault) → s.fault ≡ None → left_of s.content ≡ 0 → front_of s.front ≡ Ok None → 1 ≤ k → k ≤ length piece → length s.front + k ≤ wanted_of s.front
    → fronted (s.front ++ take k piece) s ≡ (new, []) → new.fault ≡ Some f → (heard_of piece s ≡ (new, [])) × (new.fault ≡ Some f)
fault_heard k piece s new f well none waits some there few is broken = (
  sym (told_heard k piece s new [] well none waits some there few is) ∙ ap (after []) (stopped (drop k piece) new f broken),
  broken,
)

-- a front that tells something, and what its body says
pub front_tells : (bytes : List ℕ) (s : Speaking) (k : LargeKind) (size : ℕ) (t : Turn) → Ok (Some (k, size)) ≡ front_of bytes → said_by k size (drop 4 bytes) s.content ≡ t → fronted bytes s ≡ by_turn s t
unfolding fronted
front_tells bytes s k size t is said = ap (by_front bytes s) (sym is) ∙ ap (by_turn s) said

pub front_fails : (bytes : List ℕ) (s : Speaking) (f : ClientFault) → Err f ≡ front_of bytes → fronted bytes s ≡ (record s { front = []; fault = Some f }, [])
unfolding fronted
front_fails bytes s f is = ap (by_front bytes s) (sym is)

pub front_waits : (bytes : List ℕ) (s : Speaking) → ◌≡◌ {A = Fronts} (Ok None) (front_of bytes) → fronted bytes s ≡ (record s { front = bytes }, [])
front_waits bytes s is = waits_on bytes s (sym is)

-- as many bytes are taken of a piece as are wanted, or all of it
pub taken_fits : (front slice piece : List ℕ) (before wanted missing most k : ℕ) → front_of front ≡ Ok None → slice ≡ front → before ≡ length front → wanted ≡ wanted_of slice → missing ≡ wanted - before → most ≡ max missing 1 → k ≡ min most (length piece) → 1 ≤ length piece
    → (1 ≤ k) × (k ≤ length piece) × (length front + k ≤ wanted_of front)
taken_fits front slice piece before wanted missing most k waits same is_before is_wanted is_missing is_most is_k some =
    let room = waits_wanted front waits in
    let want : wanted ≡ wanted_of front = is_wanted ∙ ap wanted_of same in
    (grind (arith, is_k, is_most, some), grind (arith, is_k), grind (arith, is_k, is_most, is_missing, is_before, want, room))

-- what one call took of a front: from `s`, which is what the call was given, so many bytes as fit
pub call_told : (s old new : Speaking) (piece slice extended front : List ℕ) (before wanted missing most k : ℕ) (said : List Saying) → s ≡ old → old.fault ≡ None → left_of old.content ≡ 0 → front_of s.front ≡ Ok None
    → slice ≡ s.front → before ≡ length s.front → wanted ≡ wanted_of slice → missing ≡ wanted - before → most ≡ max missing 1 → k ≡ min most (length piece) → 1 ≤ length piece → extended ≡ s.front ++ take k piece
    → front ≡ new.front → fronted extended s ≡ (new, said) → after said (heard_of (drop k piece) (record new { front = front })) ≡ heard_of piece old
call_told s old new piece slice extended front before wanted missing most k said view well none waits same is_before is_wanted is_missing is_most is_k some grown is_front turn =
    let fits = taken_fits s.front slice piece before wanted missing most k waits same is_before is_wanted is_missing is_most is_k some in
    ap (λ fr. after said (heard_of (drop k piece) (record new { front = fr }))) is_front
    ∙ told_heard k piece s new said (ap (λ r. r.fault) view ∙ well) (ap (λ r. left_of r.content) view ∙ none) waits fits.0 fits.1 fits.2 (ap (λ b. fronted b s) (sym grown) ∙ turn)
    ∙ ap (heard_of piece) view

pub call_fault : (s old : Speaking) (piece slice extended front : List ℕ) (before wanted missing most k : ℕ) (f g : ClientFault) → s ≡ old → old.fault ≡ None → left_of old.content ≡ 0 → front_of s.front ≡ Ok None
    → slice ≡ s.front → before ≡ length s.front → wanted ≡ wanted_of slice → missing ≡ wanted - before → most ≡ max missing 1 → k ≡ min most (length piece) → 1 ≤ length piece → extended ≡ s.front ++ take k piece
    → front ≡ [] → fronted extended s ≡ (record s { front = []; fault = Some f }, []) → f ≡ g
    → (heard_of piece old ≡ (record s { front = front; fault = Some f }, [])) × (Some f ≡ Some g)
call_fault s old piece slice extended front before wanted missing most k f g view well none waits same is_before is_wanted is_missing is_most is_k some grown is_front turn told =
    let fits = taken_fits s.front slice piece before wanted missing most k waits same is_before is_wanted is_missing is_most is_k some in
    let new : Speaking = record s { front = []; fault = Some f } in
    let all = fault_heard k piece s new f (ap (λ r. r.fault) view ∙ well) (ap (λ r. left_of r.content) view ∙ none) waits fits.0 fits.1 fits.2 (ap (λ b. fronted b s) (sym grown) ∙ turn) refl in
    (ap (heard_of piece) (sym view) ∙ all.0 ∙ ap (λ fr. (record s { front = fr; fault = Some f }, [])) (sym is_front), ap Some told)

-- a fault in an answer is one
pub same_fault : {A : Type 0} (f g : ClientFault) → ◌≡◌ {A = Result A (Refusal ClientFault)} (Err (Fault f)) (Err (Fault g)) → f ≡ g
same_fault f g e = cc
