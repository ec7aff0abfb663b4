-- What a change of one client leaves of the others.
use Rattle.std.proofs.Common.{arith, ◌≡◌, ℕ, zero, suc, ◌+◌, ◌-◌, ◌≤◌, Bool, not, ◌||◌, ◌&&◌, true, false, cond, List, [], ◌∷◌, ◌++◌, drop, nat_eq, nat_lt, Option, None, Some, IsSomeAnd, IfSome, subst, sym, refl, ap, ◌∙◌, is_some, inl, inr, ◌⊎◌}
use Rattle.std.specs.Option.{option_map}
use Rattle.std.specs.Ordering.{nat_cmp}
use Rattle.std.specs.BTreeMap.{insert_entry, is_at}
use Rattle.std.specs.List.{list_any}
use Rattle.std.specs.Map.{keys_of, set_value}
use Rattle.std.specs.List.Sorted.{IsStrictlySortedBy}
use Rattle.std.specs.Cmp.{nat_cmp_total}
use Rattle.std.specs.Set.{remove_key}
use Rattle.std.proofs.lemmas.Bool.Decides.{nat_tests}
use Rattle.std.proofs.lemmas.Map.Entries.{sum_by-set_value, sum_by-insert_entry, sum_by-remove_entry}
use Rattle.av_turns.specs.declared.client.Client.{Client}
use Rattle.av_turns.specs.Client.{IsFit, due_of, may_turn}
use Rattle.av_turns.specs.Times.{has, is_time, Changes, Forgets}
use Rattle.av_turns.specs.Clients.{Admits, at, entered, GrantsMany, GrantsOne, is_due, is_once, IsGone, IsPlaced, IsSound, longer, longest_from, marked, Puts, shared_in, State, waiting}
use Rattle.av_turns.proofs.RingLemmas.{entered_any, entered_once, left_gone, left_once, once_more, removed_any, removed_once, stands, stands_turned, turned}

pub at_set : (q n : ℕ) (es : List (ℕ × Client)) (was w : Client) → at es n ≡ Some was → at (set_value (is_at (nat_cmp n)) es w) q ≡ cond (nat_eq q n) (Some w) (at es q)
at_set q n [] was w some = grind (arith, some)
at_set q n (e ∷ es) was w some = grind (arith, nat_tests, some, at_set q n es was w)

pub waiting_any : (q n was is : ℕ) (wants : List ℕ) → is_once wants ≡ true → list_any (nat_eq n) wants ≡ nat_lt 0 was → list_any (nat_eq q) (waiting was is n wants) ≡ cond (nat_eq q n) (nat_lt 0 is) (list_any (nat_eq q) wants)
waiting_any q n was is wants once here = grind (arith, nat_tests, once, here, removed_any q n wants, stands q n wants)

pub waiting_once : (n was is : ℕ) (wants : List ℕ) → is_once wants ≡ true → list_any (nat_eq n) wants ≡ nat_lt 0 was → is_once (waiting was is n wants) ≡ true
waiting_once n was is wants once here = grind (arith, nat_tests, once, here, removed_once n wants, once_more n wants)

-- a client that is not concerned is where it was
pub placed_same : (o : Option Client) (q : ℕ) (ring ring2 wants wants2 : List ℕ) → list_any (nat_eq q) ring2 ≡ list_any (nat_eq q) ring → list_any (nat_eq q) wants2 ≡ list_any (nat_eq q) wants → IsPlaced o q ring wants → IsPlaced o q ring2 wants2
placed_same None q ring ring2 wants wants2 e f h = (e ∙ h.0, f ∙ h.1)
placed_same (Some c) q ring ring2 wants wants2 e f h = (h.0, e ∙ h.1, f ∙ h.2, h.3)

pub or_right : (a b : Bool) → b ≡ true → (a || b) ≡ true
or_right true b h = refl
or_right false b h = h

pub either : (a b : Bool) → (a || (not a && b)) ≡ (a || b)
either true b = refl
either false b = refl

pub or_false : (a : Bool) → (a || false) ≡ a
or_false true = refl
or_false false = refl

pub and_true : (a : Bool) → (a && true) ≡ a
and_true true = refl
and_true false = refl

pub and_false : (a : Bool) → (a && false) ≡ false
and_false true = refl
and_false false = refl

pub or_not : (a b : Bool) → (a || (b && not b)) ≡ a
or_not true b = refl
or_not false true = refl
or_not false false = refl

pub ready : (was : Client) (n : ℕ) (ring wants : List ℕ) → IsPlaced (Some was) n ring wants → list_any (nat_eq n) ring ≡ was.is_ready
ready was n ring wants h = h.1

pub away_of : (n : ℕ) (ring wants : List ℕ) → IsPlaced None n ring wants → list_any (nat_eq n) ring ≡ false
away_of n ring wants h = h.0

pub wanted : (was : Client) (n : ℕ) (ring wants : List ℕ) → IsPlaced (Some was) n ring wants → list_any (nat_eq n) wants ≡ nat_lt 0 was.want
wanted was n ring wants h = h.2

-- a client that is put is where it belongs
pub placed_here : (q : ℕ) (was c : Client) (ring wants ring2 wants2 : List ℕ) → IsPlaced (Some was) q ring wants → c.is_ready ≡ was.is_ready → IsFit c → list_any (nat_eq q) ring2 ≡ (list_any (nat_eq q) ring || (not c.is_ready && may_turn c)) → list_any (nat_eq q) wants2 ≡ nat_lt 0 c.want → IsPlaced (Some (marked c)) q ring2 wants2
placed_here q was c ring wants ring2 wants2 h same fit e f =
    (or_right c.is_ready (may_turn c), e ∙ (ap (λ b. b || (not c.is_ready && may_turn c)) (h.1 ∙ sym same) ∙ either c.is_ready (may_turn c)), f, record { memory = fit.memory; share = fit.share; output = fit.output; line = fit.line; taken = fit.taken })

placed_by : (b : Bool) (n q : ℕ) (es : List (ℕ × Client)) (was c : Client) (ring wants : List ℕ) → ((m : ℕ) → IsPlaced (at es m) m ring wants) → is_once wants ≡ true → at es n ≡ Some was → c.is_ready ≡ was.is_ready → IsFit c
    → list_any (nat_eq n) wants ≡ nat_lt 0 was.want → nat_eq q n ≡ b
    → IsPlaced (cond b (Some (marked c)) (at es q)) q (entered c.is_ready (may_turn c) n ring) (waiting was.want c.want n wants)
placed_by true n q es was c ring wants all once some same fit here e =
    let same_number : q ≡ n = grind (arith, nat_tests, e) in
    let in_ring : list_any (nat_eq q) (entered c.is_ready (may_turn c) n ring) ≡ (list_any (nat_eq q) ring || (not c.is_ready && may_turn c)) =
    entered_any q n c.is_ready (may_turn c) ring ∙ ap (λ b. list_any (nat_eq q) ring || (b && (not c.is_ready && may_turn c))) e in
    let in_wants : list_any (nat_eq q) (waiting was.want c.want n wants) ≡ nat_lt 0 c.want =
    waiting_any q n was.want c.want wants once here ∙ ap (λ b. cond b (nat_lt 0 c.want) (list_any (nat_eq q) wants)) e in
    placed_here q was c ring wants _ _ (subst (λ o. IsPlaced o q ring wants) (ap (at es) same_number ∙ some) (all q)) same fit in_ring in_wants
placed_by false n q es was c ring wants all once some same fit here e =
    placed_same (at es q) q ring _ wants _
    (entered_any q n c.is_ready (may_turn c) ring ∙ ap (λ b. list_any (nat_eq q) ring || (b && (not c.is_ready && may_turn c))) e ∙ or_false (list_any (nat_eq q) ring))
    (waiting_any q n was.want c.want wants once here ∙ ap (λ b. cond b (nat_lt 0 c.want) (list_any (nat_eq q) wants)) e)
    (all q)

-- whoever it is, it is where it belongs once a client is put
pub placed : (n q : ℕ) (es : List (ℕ × Client)) (was c : Client) (ring wants : List ℕ) → ((m : ℕ) → IsPlaced (at es m) m ring wants) → is_once wants ≡ true → at es n ≡ Some was → c.is_ready ≡ was.is_ready → IsFit c
    → IsPlaced (at (set_value (is_at (nat_cmp n)) es (marked c)) q) q (entered c.is_ready (may_turn c) n ring) (waiting was.want c.want n wants)
placed n q es was c ring wants all once some same fit =
    subst (λ o. IsPlaced o q (entered c.is_ready (may_turn c) n ring) (waiting was.want c.want n wants)) (sym (at_set q n es was (marked c) some))
    (placed_by (nat_eq q n) n q es was c ring wants all once some same fit (wanted was n ring wants (subst (λ o. IsPlaced o n ring wants) some (all n))) refl)

-- a client's time is where it belongs once it is put
timed_by : (b : Bool) (wait n q time : ℕ) (es : List (ℕ × Client)) (was c : Client) (due due2 : List (ℕ × ℕ)) → ((m t : ℕ) → has t m due ≡ is_due wait (at es m) t) → at es n ≡ Some was
    → Changes due due2 n (due_of wait was) (due_of wait c) → nat_eq q n ≡ b → has time q due2 ≡ is_due wait (cond b (Some (marked c)) (at es q)) time
timed_by true wait n q time es was c due due2 all some changes e =
    let same_number : q ≡ n = grind (arith, nat_tests, e) in
    let had : has time q due ≡ is_time (due_of wait was) time = all q time ∙ ap (λ o. is_due wait o time) (ap (at es) same_number ∙ some) in
    changes q time ∙ ap (λ b. (b && is_time (due_of wait c) time) || (has time q due && not (b && is_time (due_of wait was) time))) e
    ∙ ap (λ h. is_time (due_of wait c) time || (h && not (is_time (due_of wait was) time))) had ∙ or_not (is_time (due_of wait c) time) (is_time (due_of wait was) time)
timed_by false wait n q time es was c due due2 all some changes e =
    changes q time ∙ ap (λ b. (b && is_time (due_of wait c) time) || (has time q due && not (b && is_time (due_of wait was) time))) e
    ∙ and_true (has time q due) ∙ all q time

pub timed : (wait n q time : ℕ) (es : List (ℕ × Client)) (was c : Client) (due due2 : List (ℕ × ℕ)) → ((m t : ℕ) → has t m due ≡ is_due wait (at es m) t) → at es n ≡ Some was
    → Changes due due2 n (due_of wait was) (due_of wait c) → has time q due2 ≡ is_due wait (at (set_value (is_at (nat_cmp n)) es (marked c)) q) time
timed wait n q time es was c due due2 all some changes =
    timed_by (nat_eq q n) wait n q time es was c due due2 all some changes refl ∙ ap (λ o. is_due wait o time) (sym (at_set q n es was (marked c) some))

-- the pool's count once a client is put
pub counted : (n : ℕ) (es : List (ℕ × Client)) (was c : Client) → at es n ≡ Some was → shared_in (set_value (is_at (nat_cmp n)) es (marked c)) + was.share ≡ shared_in es + c.share
counted n es was c some = sum_by-set_value (λ k. k.share) (is_at (nat_cmp n)) es was (marked c) some

-- the pool has what goes back
pub gives_back : (s : State) (due : List (ℕ × ℕ)) (n : ℕ) (was c : Client) → IsSound s due → at s.clients n ≡ Some was → was.share ≤ s.shared + c.share
gives_back s due n was c sound some = omega (arith, counted n s.clients was c some, sound.counted)

-- all is where it belongs once a client is put
pub put_sound : (s new : State) (due due2 : List (ℕ × ℕ)) (n : ℕ) (was c : Client) → IsSound s due → at s.clients n ≡ Some was → c.is_ready ≡ was.is_ready → new.shared ≤ 67108864 → IsFit c → Puts s new n was c
    → Changes due due2 n (due_of s.wait was) (due_of s.wait c) → IsSound new due2
put_sound s new due due2 n was c sound some same bounded fit puts changes =
    record {
      placed = λ q. rw (puts.counts, puts.ring, puts.wants) (placed n q s.clients was c s.ring s.wants sound.placed sound.wants_once some same fit);
      ring_once = rw puts.ring (entered_once n c.is_ready (may_turn c) s.ring sound.ring_once (ready was n s.ring s.wants (subst (λ o. IsPlaced o n s.ring s.wants) some (sound.placed n)) ∙ sym same));
      wants_once = rw puts.wants (waiting_once n was.want c.want s.wants sound.wants_once (wanted was n s.ring s.wants (subst (λ o. IsPlaced o n s.ring s.wants) some (sound.placed n))));
      timed = λ q time. rw (puts.counts, puts.wait) (timed s.wait n q time s.clients was c due due2 sound.timed some changes);
      counted = rw puts.counts (omega (arith, counted n s.clients was c some, sound.counted, puts.shared));
      bounded = bounded;
    }

unchanged_by : (b : Bool) (s : State) (due : List (ℕ × ℕ)) (n q time : ℕ) (was : Client) → IsSound s due → at s.clients n ≡ Some was → nat_eq q n ≡ b
    → has time q due ≡ ((nat_eq q n && is_time (due_of s.wait was) time) || (has time q due && not (nat_eq q n && is_time (due_of s.wait was) time)))
unchanged_by true s due n q time was sound some e =
    let same_number : q ≡ n = grind (arith, nat_tests, e) in
    let had : has time q due ≡ is_time (due_of s.wait was) time = sound.timed q time ∙ ap (λ o. is_due s.wait o time) (ap (at s.clients) same_number ∙ some) in
    had ∙ sym (ap (λ b. (b && is_time (due_of s.wait was) time) || (has time q due && not (b && is_time (due_of s.wait was) time))) e
    ∙ ap (λ h. is_time (due_of s.wait was) time || (h && not (is_time (due_of s.wait was) time))) had ∙ or_not (is_time (due_of s.wait was) time) (is_time (due_of s.wait was) time))
unchanged_by false s due n q time was sound some e =
    sym (ap (λ b. (b && is_time (due_of s.wait was) time) || (has time q due && not (b && is_time (due_of s.wait was) time))) e ∙ and_true (has time q due))

-- no time is another
pub unchanged : (s : State) (due : List (ℕ × ℕ)) (n : ℕ) (was : Client) → IsSound s due → at s.clients n ≡ Some was → Changes due due n (due_of s.wait was) (due_of s.wait was)
unchanged s due n was sound some = λ q time. unchanged_by (nat_eq q n) s due n q time was sound some refl

-- all is where it belongs behind a turn
pub turn_sound : (s : State) (due : List (ℕ × ℕ)) (n : ℕ) → IsSound s due → s.ring ≡ n ∷ drop 1 s.ring → IsSound (record s { ring = drop 1 s.ring ++ n ∷ [] }) due
turn_sound s due n sound front =
    record {
      placed = λ q. placed_same (at s.clients q) q s.ring _ s.wants s.wants (stands_turned q n (drop 1 s.ring) ∙ ap (λ r. list_any (nat_eq q) r) (sym front)) refl (sound.placed q);
      ring_once = turned n (drop 1 s.ring) (subst (λ r. is_once r ≡ true) front sound.ring_once);
      wants_once = sound.wants_once;
      timed = sound.timed;
      counted = sound.counted;
      bounded = sound.bounded;
    }

-- the client in front leaves
left_placed : (b : Bool) (s : State) (due : List (ℕ × ℕ)) (n q : ℕ) (was : Client) → IsSound s due → s.ring ≡ n ∷ drop 1 s.ring → at s.clients n ≡ Some was → may_turn was ≡ false → nat_eq q n ≡ b
    → IsPlaced (cond b (Some (record was { is_ready = false })) (at s.clients q)) q (drop 1 s.ring) s.wants
left_placed true s due n q was sound front some never e =
    let same_number : q ≡ n = grind (arith, nat_tests, e) in
    let here : IsPlaced (Some was) q s.ring s.wants = subst (λ o. IsPlaced o q s.ring s.wants) (ap (at s.clients) same_number ∙ some) (sound.placed q) in
    let gone : list_any (nat_eq n) (drop 1 s.ring) ≡ false = left_gone n (drop 1 s.ring) (subst (λ r. is_once r ≡ true) front sound.ring_once) in
    (λ may. sym never ∙ may, ap (λ m. list_any (nat_eq m) (drop 1 s.ring)) same_number ∙ gone, here.2, record { memory = here.3.memory; share = here.3.share; output = here.3.output; line = here.3.line; taken = here.3.taken })
left_placed false s due n q was sound front some never e =
    placed_same (at s.clients q) q s.ring _ s.wants s.wants (sym (ap (λ r. list_any (nat_eq q) r) front ∙ ap (λ b. b || list_any (nat_eq q) (drop 1 s.ring)) e)) refl (sound.placed q)

left_timed : (b : Bool) (s : State) (due : List (ℕ × ℕ)) (n q time : ℕ) (was : Client) → IsSound s due → at s.clients n ≡ Some was → nat_eq q n ≡ b
    → has time q due ≡ is_due s.wait (cond b (Some (record was { is_ready = false })) (at s.clients q)) time
left_timed true s due n q time was sound some e =
    let same_number : q ≡ n = grind (arith, nat_tests, e) in
    sound.timed q time ∙ ap (λ o. is_due s.wait o time) (ap (at s.clients) same_number ∙ some)
left_timed false s due n q time was sound some e = sound.timed q time

pub left_sound : (s : State) (due : List (ℕ × ℕ)) (n : ℕ) (was : Client) → IsSound s due → s.ring ≡ n ∷ drop 1 s.ring → at s.clients n ≡ Some was → may_turn was ≡ false
    → IsSound (record s { clients = set_value (is_at (nat_cmp n)) s.clients (record was { is_ready = false }); ring = drop 1 s.ring }) due
left_sound s due n was sound front some never =
    record {
      placed = λ q. subst (λ o. IsPlaced o q (drop 1 s.ring) s.wants) (sym (at_set q n s.clients was (record was { is_ready = false }) some)) (left_placed (nat_eq q n) s due n q was sound front some never refl);
      ring_once = left_once n (drop 1 s.ring) (subst (λ r. is_once r ≡ true) front sound.ring_once);
      wants_once = sound.wants_once;
      timed = λ q time. left_timed (nat_eq q n) s due n q time was sound some refl ∙ ap (λ o. is_due s.wait o time) (sym (at_set q n s.clients was (record was { is_ready = false }) some));
      counted = omega (arith, sum_by-set_value (λ k. k.share) (is_at (nat_cmp n)) s.clients was (record was { is_ready = false }) some, sound.counted);
      bounded = sound.bounded;
    }

-- whoever is in the ring is there
pub is_there : (s : State) (due : List (ℕ × ℕ)) (n : ℕ) → IsSound s due → s.ring ≡ n ∷ drop 1 s.ring → at s.clients n ≡ None → ⊥
is_there s due n sound front none =
    let away : list_any (nat_eq n) s.ring ≡ false = away_of n s.ring s.wants (subst (λ o. IsPlaced o n s.ring s.wants) none (sound.placed n)) in
    let here : list_any (nat_eq n) (n ∷ drop 1 s.ring) ≡ true = grind (arith, nat_tests) in
    let here2 : list_any (nat_eq n) s.ring ≡ true = ap (λ r. list_any (nat_eq n) r) front ∙ here in
    grind (arith, here2, away)

-- all is where it belongs once a client is let in
admitted_by : (b : Bool) (s : State) (due : List (ℕ × ℕ)) (n q : ℕ) (c : Client) → IsSound s due → at s.clients n ≡ None → c.is_ready ≡ false → c.want ≡ 0 → IsFit c → nat_eq q n ≡ b
    → IsPlaced (cond b (Some (marked c)) (at s.clients q)) q (entered false (may_turn c) n s.ring) s.wants
admitted_by true s due n q c sound none bare nothing fit e =
    let same_number : q ≡ n = grind (arith, nat_tests, e) in
    let away : IsPlaced None q s.ring s.wants = subst (λ o. IsPlaced o q s.ring s.wants) (ap (at s.clients) same_number ∙ none) (sound.placed q) in (
      or_right c.is_ready (may_turn c),
      entered_any q n false (may_turn c) s.ring ∙ ap (λ b. b || (nat_eq q n && may_turn c)) away.0 ∙ ap (λ b. b && may_turn c) e ∙ ap (λ b. b || may_turn c) (sym bare),
      away.1 ∙ sym (ap (λ w. nat_lt 0 w) nothing),
      record { memory = fit.memory; share = fit.share; output = fit.output; line = fit.line; taken = fit.taken },
    )
admitted_by false s due n q c sound none bare nothing fit e =
    placed_same (at s.clients q) q s.ring _ s.wants s.wants
    (entered_any q n false (may_turn c) s.ring ∙ ap (λ b. list_any (nat_eq q) s.ring || (b && may_turn c)) e ∙ or_false (list_any (nat_eq q) s.ring)) refl (sound.placed q)

admitted_timed : (b : Bool) (s : State) (due due2 : List (ℕ × ℕ)) (n q time : ℕ) (c : Client) → IsSound s due → at s.clients n ≡ None → Changes due due2 n None (due_of s.wait c) → nat_eq q n ≡ b
    → has time q due2 ≡ is_due s.wait (cond b (Some (marked c)) (at s.clients q)) time
admitted_timed true s due due2 n q time c sound none changes e =
    let same_number : q ≡ n = grind (arith, nat_tests, e) in
    let had : has time q due ≡ false = sound.timed q time ∙ ap (λ o. is_due s.wait o time) (ap (at s.clients) same_number ∙ none) in
    changes q time ∙ ap (λ b. (b && is_time (due_of s.wait c) time) || (has time q due && not (b && false))) e
    ∙ ap (λ h. is_time (due_of s.wait c) time || (h && not false)) had ∙ or_false (is_time (due_of s.wait c) time)
admitted_timed false s due due2 n q time c sound none changes e =
    changes q time ∙ ap (λ b. (b && is_time (due_of s.wait c) time) || (has time q due && not (b && false))) e ∙ and_true (has time q due) ∙ sound.timed q time

pub at_insert : (q n : ℕ) (es : List (ℕ × Client)) (w : Client) → at (insert_entry nat_cmp es n w) q ≡ cond (nat_eq q n) (Some w) (at es q)
at_insert q n [] w = grind (arith, nat_tests)
at_insert q n (e ∷ es) w = grind (arith, nat_tests, at_insert q n es w)

pub admit_sound : (s new : State) (due due2 : List (ℕ × ℕ)) (n : ℕ) (c : Client) → IsSound s due → IsStrictlySortedBy nat_cmp (keys_of s.clients) → at s.clients n ≡ None → c.is_ready ≡ false → c.want ≡ 0 → c.share ≡ 0 → IsFit c
    → Admits s new n c → Changes due due2 n None (due_of s.wait c) → IsSound new due2
admit_sound s new due due2 n c sound sorted none bare nothing alone fit admits changes =
    record {
      placed = λ q. rw (admits.counts, admits.ring, admits.wants) (subst (λ o. IsPlaced o q (entered false (may_turn c) n s.ring) s.wants) (sym (at_insert q n s.clients (marked c))) (admitted_by (nat_eq q n) s due n q c sound none bare nothing fit refl));
      ring_once = rw admits.ring (entered_once n false (may_turn c) s.ring sound.ring_once (away_of n s.ring s.wants (subst (λ o. IsPlaced o n s.ring s.wants) none (sound.placed n))));
      wants_once = rw admits.wants sound.wants_once;
      timed = λ q time. rw (admits.counts, admits.wait) (admitted_timed (nat_eq q n) s due due2 n q time c sound none changes refl ∙ ap (λ o. is_due s.wait o time) (sym (at_insert q n s.clients (marked c))));
      counted = rw (admits.counts, admits.shared) (grind (arith, sum_by-insert_entry (λ k. k.share) nat_cmp_total s.clients n (marked c) sorted, none, alone, sound.counted));
      bounded = rw admits.shared sound.bounded;
    }

-- all is where it belongs once a client is gone
gone_by : (b : Bool) (s : State) (due : List (ℕ × ℕ)) (n q : ℕ) → IsSound s due → nat_eq q n ≡ b
    → IsPlaced (cond b None (at s.clients q)) q (remove_key (nat_eq n) s.ring) (remove_key (nat_eq n) s.wants)
gone_by true s due n q sound e = (
  removed_any q n s.ring sound.ring_once ∙ ap (λ b. list_any (nat_eq q) s.ring && not b) e ∙ and_false (list_any (nat_eq q) s.ring),
  removed_any q n s.wants sound.wants_once ∙ ap (λ b. list_any (nat_eq q) s.wants && not b) e ∙ and_false (list_any (nat_eq q) s.wants),
)
gone_by false s due n q sound e =
    placed_same (at s.clients q) q s.ring _ s.wants _
    (removed_any q n s.ring sound.ring_once ∙ ap (λ b. list_any (nat_eq q) s.ring && not b) e ∙ and_true (list_any (nat_eq q) s.ring))
    (removed_any q n s.wants sound.wants_once ∙ ap (λ b. list_any (nat_eq q) s.wants && not b) e ∙ and_true (list_any (nat_eq q) s.wants))
    (sound.placed q)

gone_timed : (b : Bool) (s : State) (due due2 : List (ℕ × ℕ)) (n q time : ℕ) (was : Client) → IsSound s due → at s.clients n ≡ Some was → Forgets due due2 n (due_of s.wait was) → nat_eq q n ≡ b
    → has time q due2 ≡ is_due s.wait (cond b None (at s.clients q)) time
gone_timed true s due due2 n q time was sound some forgets e =
    let same_number : q ≡ n = grind (arith, nat_tests, e) in
    let had : has time q due ≡ is_time (due_of s.wait was) time = sound.timed q time ∙ ap (λ o. is_due s.wait o time) (ap (at s.clients) same_number ∙ some) in
    forgets q time ∙ ap (λ b. has time q due && not (b && is_time (due_of s.wait was) time)) e ∙ ap (λ h. h && not (is_time (due_of s.wait was) time)) had ∙ or_not false (is_time (due_of s.wait was) time)
gone_timed false s due due2 n q time was sound some forgets e =
    forgets q time ∙ ap (λ b. has time q due && not (b && is_time (due_of s.wait was) time)) e ∙ and_true (has time q due) ∙ sound.timed q time

pub gone_sound : (s new : State) (due due2 : List (ℕ × ℕ)) (n : ℕ) (was : Client) → IsSound s due → at s.clients n ≡ Some was → ((q : ℕ) → at new.clients q ≡ cond (nat_eq q n) None (at s.clients q))
    → IsGone s new n → new.shared ≡ s.shared - was.share → Forgets due due2 n (due_of s.wait was) → IsSound new due2
gone_sound s new due due2 n was sound some removed gone shared forgets =
    let sums = sum_by-remove_entry (λ k. k.share) (is_at (nat_cmp n)) s.clients in
    record {
      placed = λ q. rw (gone.ring, gone.wants) (subst (λ o. IsPlaced o q (remove_key (nat_eq n) s.ring) (remove_key (nat_eq n) s.wants)) (sym (removed q)) (gone_by (nat_eq q n) s due n q sound refl));
      ring_once = rw gone.ring (removed_once n s.ring sound.ring_once);
      wants_once = rw gone.wants (removed_once n s.wants sound.wants_once);
      timed = λ q time. rw gone.wait (gone_timed (nat_eq q n) s due due2 n q time was sound some forgets refl ∙ ap (λ o. is_due s.wait o time) (sym (removed q)));
      counted = rw (gone.counts, shared) (grind (arith, sum_by-remove_entry (λ k. k.share) (is_at (nat_cmp n)) s.clients, some, sound.counted));
      bounded = omega (arith, shared, sound.bounded);
    }

pub some_and : {A : Type 0} (o : Option A) (a : A) (P : A → Type 0) → o ≡ Some a → IsSomeAnd o P → P a
some_and o a P e h = subst (λ o. IsSomeAnd o P) e h

pub if_some : {A : Type 0} (o : Option A) (a : A) (P : A → Type 0) → o ≡ Some a → P a → IfSome o P
if_some o a P e h = subst (λ o. IfSome o P) (sym e) h

waits_no_more : (n want : ℕ) (wants : List ℕ) → nat_lt 0 want ≡ true → waiting want 0 n wants ≡ remove_key (nat_eq n) wants
waits_no_more n want wants h = grind (arith, nat_tests, h)

-- whoever is first of those that wait for a share waits no more once it has one
pub granted_wants : (s : State) (due : List (ℕ × ℕ)) (n : ℕ) (c : Client) → IsSound s due → s.wants ≡ n ∷ drop 1 s.wants → at s.clients n ≡ Some c → waiting c.want 0 n s.wants ≡ drop 1 s.wants
granted_wants s due n c sound front some =
    let here : list_any (nat_eq n) (n ∷ drop 1 s.wants) ≡ true = grind (arith, nat_tests) in
    let wants : nat_lt 0 c.want ≡ true = sym (wanted c n s.ring s.wants (subst (λ o. IsPlaced o n s.ring s.wants) some (sound.placed n))) ∙ ap (λ r. list_any (nat_eq n) r) front ∙ here in
    let gone : remove_key (nat_eq n) (n ∷ drop 1 s.wants) ≡ drop 1 s.wants = grind (arith, nat_tests) in
    waits_no_more n c.want s.wants wants ∙ ap (remove_key (nat_eq n)) front ∙ gone

pub and_not : (a : Bool) → (a && not a) ≡ false
and_not true = refl
and_not false = refl

-- a client that could not be let in left nothing behind
undone_by : (b : Bool) (s : State) (due due1 due2 : List (ℕ × ℕ)) (n q time : ℕ) (d : Option ℕ) → IsSound s due → at s.clients n ≡ None → Changes due due1 n None d → Forgets due1 due2 n d → nat_eq q n ≡ b → has time q due2 ≡ has time q due
undone_by true s due due1 due2 n q time d sound none changes forgets e =
    let same_number : q ≡ n = grind (arith, nat_tests, e) in
    let had : has time q due ≡ false = sound.timed q time ∙ ap (λ o. is_due s.wait o time) (ap (at s.clients) same_number ∙ none) in
    forgets q time ∙ ap (λ b. has time q due1 && not (b && is_time d time)) e
    ∙ ap (λ h. h && not (is_time d time)) (changes q time ∙ ap (λ b. (b && is_time d time) || (has time q due && not (b && false))) e ∙ ap (λ h. is_time d time || (h && not false)) had ∙ or_false (is_time d time))
    ∙ and_not (is_time d time) ∙ sym had
undone_by false s due due1 due2 n q time d sound none changes forgets e =
    forgets q time ∙ ap (λ b. has time q due1 && not (b && is_time d time)) e ∙ and_true (has time q due1)
    ∙ changes q time ∙ ap (λ b. (b && is_time d time) || (has time q due && not (b && false))) e ∙ and_true (has time q due)

pub undone : (s : State) (due due1 due2 : List (ℕ × ℕ)) (n : ℕ) (d : Option ℕ) → IsSound s due → at s.clients n ≡ None → Changes due due1 n None d → Forgets due1 due2 n d → IsSound s due2
undone s due due1 due2 n d sound none changes forgets =
    record {
      placed = sound.placed;
      ring_once = sound.ring_once;
      wants_once = sound.wants_once;
      timed = λ q time. undone_by (nat_eq q n) s due due1 due2 n q time d sound none changes forgets refl ∙ sound.timed q time;
      counted = sound.counted;
      bounded = sound.bounded;
    }

pub same_test : (n q : ℕ) → is_at (nat_cmp n) q ≡ nat_eq q n
same_test n q = grind (arith, nat_tests)

-- one share more was given
pub grants_more : (count : ℕ) (old between new : State) → GrantsMany count old between → GrantsOne between new → GrantsMany (suc count) old new
grants_more zero old between new many one = (new, subst (λ s. GrantsOne s new) many one, refl)
grants_more (suc count) old between new many one = (many.0, many.1, grants_more count many.0 between new many.2 one)

-- whoever is idle longest is there
longer_of : (longest : Option (ℕ × ℕ)) (number w : ℕ) (idle : Option ℕ) → option_map (λ x. x.1) (longer longest number idle) ≡ Some w → (option_map (λ x. x.1) longest ≡ Some w) ⊎ (number ≡ w)
longer_of longest number w None e = inl e
longer_of None number w (Some since) e = inr (grind (arith, e))
longer_of (Some first) number w (Some since) e = longer_by (nat_lt since first.0) first number w since e
  where
    longer_by : (b : Bool) (first : ℕ × ℕ) (number w since : ℕ) → option_map (λ (x : ℕ × ℕ). x.1) (cond b (Some (since, number)) (Some first)) ≡ Some w → (Some first.1 ≡ Some w) ⊎ (number ≡ w)
    longer_by true first number w since e = inr (grind (arith, e))
    longer_by false first number w since e = inl e

there_first : (e : ℕ × Client) (es : List (ℕ × Client)) (w : ℕ) → e.0 ≡ w → is_some (at (e ∷ es) w) ≡ true
there_first e es w same = grind (arith, nat_tests, same)

there_more : (e : ℕ × Client) (es : List (ℕ × Client)) (w : ℕ) → is_some (at es w) ≡ true → is_some (at (e ∷ es) w) ≡ true
there_more e es w here = grind (arith, nat_tests, here)

pub idle_there : (longest : Option (ℕ × ℕ)) (es : List (ℕ × Client)) (w : ℕ) → option_map (λ x. x.1) (longest_from longest es) ≡ Some w → (option_map (λ x. x.1) longest ≡ Some w) ⊎ (is_some (at es w) ≡ true)
idle_there longest [] w e = inl e
idle_there longest (x ∷ es) w e = elim (idle_there (longer longest x.0 x.1.idle) es w e) [
  | inl first ↦ elim (longer_of longest x.0 w x.1.idle first) [ inl before ↦ inl before | inr same ↦ inr (there_first x es w same) ]
  | inr later ↦ inr (there_more x es w later)
]
