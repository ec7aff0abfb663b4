-- How the rows follow where a question is asked anew.
use Rattle.std.proofs.Common.{◌≡◌, ◌≢◌, ℕ, ◌+◌, ◌-◌, ◌<◌, ◌≤◌, ◌==◌, ◌&&◌, Bool, true, false, not, List, [], ◌∷◌, ◌++◌, Some, None, IfSome, cond, map, filter, refl, sym, ap, subst, ◌∙◌, inl, inr, arith}
use Rattle.std.specs.Option.{option_map}
use Rattle.std.specs.BTreeMap.{is_at}
use Rattle.std.specs.List.Sorted.{IsStrictlySortedBy}
use Rattle.std.specs.Ordering.{nat_cmp}
use Rattle.std.proofs.lemmas.Bool.{cases_eq}
use Rattle.std.proofs.lemmas.Map.Made.{keys_of-map_values, lookup-map_values}
use Rattle.av_base.specs.declared.cause.Cause.{Cause}
use Rattle.av_base.specs.declared.message_id.MessageId.{MessageId}
use Rattle.av_base.specs.declared.port.Port.{Port}
use Rattle.av_context.specs.Contexts.{at, with, without, PutsAt}
use Rattle.av_context.specs.declared.context_state.ContextState.TheVariants.{Modified, Scanning}
use Rattle.av_filter_table.specs.Asking.{again_under, is_lost, is_spent as is_spent_open, moved as moved_open, moved_opens}
use Rattle.av_filter_table.specs.Chains.{Questions, Opens, IsChain, AreChained, plains, of, is_spent, once_more, asked_about, essence, essences}
use Rattle.av_filter_table.specs.Moving.{is_over, overs, moved, moved_all, refusal, refusals}
use Rattle.av_numbered.specs.Numbered.{IsAscending}
use Rattle.av_filter_table.specs.Answering.{by_mode}
use Rattle.av_filter_table.specs.FilterTable.{id_of, asked_of, held_of, questions_of, pended_of, AreNumbered, IsUnasked, IsConsistent}
use Rattle.av_filter_table.specs.StreamContexts.{Known, states, let_loose, given_back, held_of as held_out}
use Rattle.av_filter_table.specs.Table.{Table, waits_for, without_question}
use Rattle.av_filter_table.specs.declared.asked.Asked.{Asked}
use Rattle.av_filter_table.specs.declared.pended.Pended.{Pended}
use Rattle.av_filter_table.proofs.ChainLemmas.{apart-test, has_none}
use Rattle.av_numbered.proofs.MapLemmas.{puts_at, same_map, puts-ascends, with-ascends, at-with, at-with_other, at-without, at-without_other, none_some, some_same, if_some, if_some_at, is_there}
use Rattle.av_filter_table.proofs.TableLemmas.{first-none_of, test-boot, keys-essences, rows-kept, known-at, Ends, ends, Asks, asks as asks-rows, states-puts, all-at}
use Rattle.av_pend.specs.Waiting.{Waiting}
use Rattle.av_store.specs.Store.{Store}

-- an open among those that move: it goes out, moves, or stays
pub moved-cons : (old new : ℕ) (x : ℕ × Waiting) (xs : List (ℕ × Waiting)) (b c : Bool) → (x.0 == old) ≡ b → is_spent x ≡ c
    → moved_all old new (x ∷ xs) ≡ cond (b && c) (moved_all old new xs) (cond b (new, once_more x.1) x ∷ moved_all old new xs)
moved-cons old new x xs b c h g =
    ap (λ a. map (moved old new) (cond (not (a && is_spent x)) (x ∷ left) left)) h ∙ (ap (λ a. map (moved old new) (cond (not (b && a)) (x ∷ left) left)) g ∙ by_case b c h)
  where
    left : List (ℕ × Waiting)
    left = filter (λ y. not (is_over old y)) xs

    by_case : (b c : Bool) → (x.0 == old) ≡ b → map (moved old new) (cond (not (b && c)) (x ∷ left) left) ≡ cond (b && c) (moved_all old new xs) (cond b (new, once_more x.1) x ∷ moved_all old new xs)
    by_case true true h = refl
    by_case true false h = ap (λ a. cond a (new, once_more x.1) x ∷ moved_all old new xs) h
    by_case false c h = ap (λ a. cond a (new, once_more x.1) x ∷ moved_all old new xs) h

moved-opens-cons : (old new : MessageId) (x : Pended) (xs : List Pended) (b c : Bool) → waits_for old x ≡ b → is_spent_open x ≡ c
    → moved_opens old new (x ∷ xs) ≡ cond (b && c) (moved_opens old new xs) (cond b (again_under new x) x ∷ moved_opens old new xs)
moved-opens-cons old new x xs b c h g =
    ap (λ a. map (moved_open old new) (cond (not (a && is_spent_open x)) (x ∷ left) left)) h ∙ (ap (λ a. map (moved_open old new) (cond (not (b && a)) (x ∷ left) left)) g ∙ by_case b c h)
  where
    left : List Pended
    left = filter (λ y. not (is_lost old y)) xs

    by_case : (b c : Bool) → waits_for old x ≡ b → map (moved_open old new) (cond (not (b && c)) (x ∷ left) left) ≡ cond (b && c) (moved_opens old new xs) (cond b (again_under new x) x ∷ moved_opens old new xs)
    by_case true true h = refl
    by_case true false h = ap (λ a. cond a (again_under new x) x ∷ moved_opens old new xs) h
    by_case false c h = ap (λ a. cond a (again_under new x) x ∷ moved_opens old new xs) h

-- no open of a number that neither had one nor is moved to
pub none-moved : (old new n : ℕ) (xs : List (ℕ × Waiting)) → n ≢ new → of n xs ≡ [] → of n (moved_all old new xs) ≡ []
none-moved old new n [] apart none = refl
none-moved old new n (x ∷ xs) apart none = go (x.0 == n) refl (x.0 == old) refl (is_spent x) refl (none-moved old new n xs apart)
  where
    no_cons : (ys : List (ℕ × Waiting)) → x ∷ ys ≡ [] → ⊥
    no_cons ys e = absurd (cc)

    tail : (x.0 == n) ≡ false → of n xs ≡ []
    tail h = sym (ap (λ b. cond b (x ∷ of n xs) (of n xs)) h) ∙ none

    go : (a : Bool) → (x.0 == n) ≡ a → (b : Bool) → (x.0 == old) ≡ b → (c : Bool) → is_spent x ≡ c → (of n xs ≡ [] → of n (moved_all old new xs) ≡ []) → of n (moved_all old new (x ∷ xs)) ≡ []
    go true f b h c g rest = absurd (no_cons (of n xs) (sym (ap (λ b. cond b (x ∷ of n xs) (of n xs)) f) ∙ none))
    go false f true h true g rest = ap (of n) (moved-cons old new x xs true true h g) ∙ rest (tail f)
    go false f true h false g rest =
        ap (of n) (moved-cons old new x xs true false h g)
        ∙ (ap (λ b. cond b ((new, once_more x.1) ∷ of n (moved_all old new xs)) (of n (moved_all old new xs))) (apart-test new n (λ e. apart (sym e))) ∙ rest (tail f))
    go false f false h c g rest =
        ap (of n) (moved-cons old new x xs false c h g)
        ∙ (ap (λ b. cond b (x ∷ of n (moved_all old new xs)) (of n (moved_all old new xs))) f ∙ rest (tail f))

-- the opens of the table that move, and those that are answered
pub moved-opens : (boot old new : ℕ) (xs : List (ℕ × Waiting)) → moved_opens (id_of boot old) (id_of boot new) (map (held_of boot) xs) ≡ map (held_of boot) (moved_all old new xs)
moved-opens boot old new [] = refl
moved-opens boot old new (x ∷ xs) = go (x.0 == old) refl (is_spent x) refl (moved-opens boot old new xs)
  where
    go : (b : Bool) → (x.0 == old) ≡ b → (c : Bool) → is_spent x ≡ c → moved_opens (id_of boot old) (id_of boot new) (map (held_of boot) xs) ≡ map (held_of boot) (moved_all old new xs)
        → moved_opens (id_of boot old) (id_of boot new) (map (held_of boot) (x ∷ xs)) ≡ map (held_of boot) (moved_all old new (x ∷ xs))
    go b h c g rest =
        moved-opens-cons (id_of boot old) (id_of boot new) (held_of boot x) (map (held_of boot) xs) b c (test-boot boot x.0 old ∙ h) g
        ∙ (by_case b c rest ∙ sym (ap (map (held_of boot)) (moved-cons old new x xs b c h g)))
      where
        by_case : (b c : Bool) → moved_opens (id_of boot old) (id_of boot new) (map (held_of boot) xs) ≡ map (held_of boot) (moved_all old new xs)
            → cond (b && c) (moved_opens (id_of boot old) (id_of boot new) (map (held_of boot) xs)) (cond b (again_under (id_of boot new) (held_of boot x)) (held_of boot x) ∷ moved_opens (id_of boot old) (id_of boot new) (map (held_of boot) xs))
            ≡ map (held_of boot) (cond (b && c) (moved_all old new xs) (cond b (new, once_more x.1) x ∷ moved_all old new xs))
        by_case true true rest = rest
        by_case true false rest = ap (λ ys. held_of boot (new, once_more x.1) ∷ ys) rest
        by_case false c rest = ap (λ ys. held_of boot x ∷ ys) rest

pub lost-refused : (t : Table) (v : Store) (cause : Cause) (boot n : ℕ) (xs : List (ℕ × Waiting)) → refusals t.mode v cause (overs n xs) ≡ by_mode t v cause (filter (is_lost (id_of boot n)) (map (held_of boot) xs))
lost-refused t v cause boot n [] = refl
lost-refused t v cause boot n (x ∷ xs) = go (x.0 == n) refl (is_spent x) refl (lost-refused t v cause boot n xs)
  where
    go : (b : Bool) → (x.0 == n) ≡ b → (c : Bool) → is_spent x ≡ c → refusals t.mode v cause (overs n xs) ≡ by_mode t v cause (filter (is_lost (id_of boot n)) (map (held_of boot) xs))
        → refusals t.mode v cause (overs n (x ∷ xs)) ≡ by_mode t v cause (filter (is_lost (id_of boot n)) (map (held_of boot) (x ∷ xs)))
    go true h true g rest = rw (test-boot boot x.0 n ∙ h, h, g) (ap (λ ys. refusal t.mode v cause x ∷ ys) rest)
    go true h false g rest = rw (test-boot boot x.0 n ∙ h, h, g) rest
    go false h c g rest = rw (test-boot boot x.0 n ∙ h, h) rest

pub record AsksAgain (boot sequence n : ℕ) (x : Asked) (port : Port) (generation : ℕ) (q q' : Questions) (p p' : Opens) (k k' : List (ℕ × Known)) : Type 0 where
  pub consistent : IsConsistent boot (sequence + 1) q' p' k'
  pub contexts : states k' ≡ with (states k) x.stream (Scanning (id_of boot (sequence + 1)))
  pub questions : questions_of boot q' ≡ without_question (id_of boot n) (questions_of boot q) ++ record { id = id_of boot (sequence + 1); port = port; stream = x.stream; generation = generation } ∷ []
  pub pended : pended_of boot p' ≡ moved_opens (id_of boot n) (id_of boot (sequence + 1)) (pended_of boot p)

-- it is as if the question had ended, and then the new one been asked
pub asks_again : (boot sequence n : ℕ) (port : Port) (generation : ℕ) (q q1 q2 q' : Questions) (p p' : Opens) (k k1 k' : List (ℕ × Known)) (x : Asked) (key : ℕ) → IsConsistent boot sequence q p k → IsAscending q → IsAscending k → at q n ≡ Some (x, key)
    → PutsAt k k1 x.stream (Some (record { key = key; state = Scanning (id_of boot (sequence + 1)); held = held_out (at k x.stream) + 1 })) → PutsAt q q1 (sequence + 1) (Some (asked_about x.stream generation port, key))
    → essences q2 ≡ essences q1 → AreChained q2 p' → AreNumbered p' → plains p' ≡ moved_all n (sequence + 1) (plains p)
    → PutsAt q2 q' n None → PutsAt k1 k' x.stream (option_map let_loose (at k1 x.stream)) → AsksAgain boot sequence n x port generation q q' p p' k k'
asks_again boot sequence n port generation q q1 q2 q' p p' k k1 k' x key consistent up up_k found held put same chained numbered is gone loose = record {
  consistent = rows-kept boot m q_new q' p p' k' asked.consistent chained' numbered unasked same_essences;
  contexts = states-puts k k' s (record { key = key; state = Scanning (id_of boot m); held = 1 }) up_k (puts_at k k' s (Some (record { key = key; state = Scanning (id_of boot m); held = 1 })) up_k up_k' here (λ j apart. loose.others j apart ∙ held.others j apart));
  questions = ap (map (asked_of boot)) same_essences ∙ (asked.questions ∙ ap (λ l. l ++ record { id = id_of boot m; port = port; stream = s; generation = generation } ∷ []) ended.questions);
  pended = ap (map (held_of boot)) is ∙ sym (moved-opens boot n m (plains p));
}
  where
    m : ℕ
    m = sequence + 1

    s : ℕ
    s = x.stream

    low : n ≤ sequence
    low = all-at (λ j. j ≤ sequence) q n consistent.asked (is_there (at q n) (x, key) found)

    differ : n ≢ m
    differ e = let below = low in absurd (omega arith)

    before : at k s ≡ Some (record { key = key; state = Scanning (id_of boot n); held = 1 })
    before = known-at boot sequence n q p k x key consistent found

    -- the question ended
    idle : Known
    idle = record { key = key; state = Modified; held = 0 }

    k0 : List (ℕ × Known)
    k0 = with k s idle

    up_k0 : IsAscending k0
    up_k0 = with-ascends k s idle up_k

    q0 : Questions
    q0 = without q n

    put_idle : PutsAt k k0 s (Some idle)
    put_idle = record { whole = refl; here = at-with k s idle; others = λ j apart. at-with_other k s j idle apart }

    out : PutsAt q q0 n None
    out = record { whole = refl; here = at-without q n up; others = λ j apart. at-without_other q n j apart }

    ended : Ends boot sequence n x q q0 p k k0 Modified
    ended = ends boot sequence n q q0 p k k0 Modified x key consistent up up_k found out (subst (PutsAt k k0 s) (sym (ap (option_map (given_back Modified)) before)) put_idle)

    -- then the new one was asked
    here : at k' s ≡ Some (record { key = key; state = Scanning (id_of boot m); held = 1 })
    here = loose.here ∙ (ap (option_map let_loose) held.here ∙ ap (λ o. Some (record { key = key; state = Scanning (id_of boot m); held = held_out o + 1 - 1 })) before)

    up_k' : IsAscending k'
    up_k' = puts-ascends k1 k' s (option_map let_loose (at k1 s)) loose (puts-ascends k k1 s _ held up_k)

    holds : PutsAt k0 k' s (Some (record { key = key; state = Scanning (id_of boot m); held = held_out (at k0 s) + 1 }))
    holds = puts_at k0 k' s _ up_k0 up_k' (here ∙ sym (ap (λ o. Some (record { key = key; state = Scanning (id_of boot m); held = held_out o + 1 })) put_idle.here))
        (λ j apart. loose.others j apart ∙ (held.others j apart ∙ sym (put_idle.others j apart)))

    no_other : IsUnasked s (essences q0)
    no_other j = if_some (λ y. y.0 ≢ s) (at (essences q0) j) (λ y at_j e.
        let scanned = if_some_at (λ y. at k0 y.0 ≡ Some (record { key = y.1.1; state = Scanning (id_of boot j); held = 1 })) (at (essences q0) j) y (ended.consistent.scanned j) at_j in
        let zero : 1 ≡ 0 = ap held_out (sym scanned ∙ (ap (at k0) e ∙ put_idle.here)) in
        absurd (omega arith))

    q_new : Questions
    q_new = with q0 m (asked_about s generation port, key)

    new : PutsAt q0 q_new m (Some (asked_about s generation port, key))
    new = record { whole = refl; here = at-with q0 m (asked_about s generation port, key); others = λ j apart. at-with_other q0 m j (asked_about s generation port, key) apart }

    asked : Asks boot sequence q0 q_new p k0 k' port s generation
    asked = asks-rows boot sequence q0 q_new p k0 k' port s generation key ended.consistent up_k0 no_other holds new

    -- and those are the questions that there are
    up_essences : (r : Questions) → IsAscending r → IsAscending (essences r)
    up_essences r up_r = subst (IsStrictlySortedBy nat_cmp) (sym (keys_of-map_values essence r)) up_r

    up_q2 : IsAscending q2
    up_q2 = subst (IsStrictlySortedBy nat_cmp) (sym (keys-essences q1 q2 same)) (puts-ascends q q1 m _ put up)

    look : (r : Questions) (j : ℕ) → at (essences r) j ≡ option_map essence (at r j)
    look r j = lookup-map_values essence (is_at (nat_cmp j)) r

    same_essences : essences q' ≡ essences q_new
    same_essences = same_map (essences q') (essences q_new) (up_essences q' (puts-ascends q2 q' n None gone up_q2)) (up_essences q_new (puts-ascends q0 q_new m _ new (puts-ascends q q0 n None out up)))
        (λ j. elim (cases_eq j n) [
          | inl at_n ↦ look q' j ∙ (ap (λ i. option_map essence (at q' i)) at_n ∙ (ap (option_map essence) gone.here ∙ (sym (ap (option_map essence) (new.others n differ ∙ out.here)) ∙ (ap (λ i. option_map essence (at q_new i)) (sym at_n) ∙ sym (look q_new j)))))
          | inr apart ↦
              look q' j ∙ (ap (option_map essence) (gone.others j apart) ∙ (sym (look q2 j) ∙ (ap (λ es. at es j) same ∙ (look q1 j ∙ (elim (cases_eq j m) [
                | inl at_m ↦ ap (λ i. option_map essence (at q1 i)) at_m ∙ (ap (option_map essence) (put.here ∙ sym new.here) ∙ ap (λ i. option_map essence (at q_new i)) (sym at_m))
                | inr other ↦ ap (option_map essence) (put.others j other ∙ (sym (out.others j apart) ∙ sym (new.others j other)))
              ] ∙ sym (look q_new j))))))
        ])

    chained' : AreChained q' p'
    chained' = record {
      linked = chained.linked;
      ends = λ j. if_some (λ z. IsChain z.0 j p') (at q' j) (λ z at_j. elim (cases_eq j n) [
        | inl at_n ↦ none_some (sym gone.here ∙ (ap (at q') (sym at_n) ∙ at_j))
        | inr apart ↦ if_some_at (λ y. IsChain y.0 j p') (at q2 j) z (chained.ends j) (sym (gone.others j apart) ∙ at_j)
      ]);
    }

    unasked : (j : ℕ) → m < j → of j (plains p') ≡ []
    unasked j above = ap (of j) is ∙ none-moved n m j (plains p) (λ e. absurd (omega arith)) (consistent.unasked j (omega arith))

-- the chains with a question that no open waits for yet
pub chained-new : (boot sequence : ℕ) (port : Port) (s generation key : ℕ) (q q1 : Questions) (p : Opens) (k : List (ℕ × Known)) → IsConsistent boot sequence q p k → PutsAt q q1 (sequence + 1) (Some (asked_about s generation port, key)) → AreChained q1 p
chained-new boot sequence port s generation key q q1 p k consistent put =
    let first = first-none_of (sequence + 1) p (consistent.unasked (sequence + 1) (omega arith)) in
    let none = has_none (sequence + 1) p first in
    record {
      linked = consistent.chained.linked;
      ends = λ m. if_some (λ z. IsChain z.0 m p) (at q1 m) (λ z at_m. elim (cases_eq m (sequence + 1)) [
        | inl same ↦ subst (λ j. IsChain z.0 j p) (sym same) (subst (λ y. IsChain y.0 (sequence + 1) p) (some_same (asked_about s generation port, key) z (sym put.here ∙ (ap (at q1) (sym same) ∙ at_m)))
            (record { first = sym first; last = sym none.last; opens = sym none.count }))
        | inr apart ↦ if_some_at (λ y. IsChain y.0 m p) (at q m) z (consistent.chained.ends m) (sym (put.others m apart) ∙ at_m)
      ]);
    }

-- the context of a question is the same, whatever its chain
pub same-key : (n : ℕ) (q q' : Questions) (x y : Asked) (key key' : ℕ) → essences q' ≡ essences q → at q n ≡ Some (x, key) → Some (y, key') ≡ at q' n → key' ≡ key
same-key n q q' x y key key' same found found' =
    ap (λ e. e.1.1) (some_same (essence (y, key')) (essence (x, key))
    (ap (option_map essence) found' ∙ (sym (lookup-map_values essence (is_at (nat_cmp n)) q') ∙ (ap (λ es. at es n) same ∙ (lookup-map_values essence (is_at (nat_cmp n)) q ∙ ap (option_map essence) found)))))

pub held-again : (boot sequence n : ℕ) (k : List (ℕ × Known)) (s key context : ℕ) → at k s ≡ Some (record { key = key; state = Scanning (id_of boot n); held = 1 }) → IfSome (at k s) (λ m. m.key ≡ context) → key ≡ context
held-again boot sequence n k s key context before same = if_some_at (λ m. m.key ≡ context) (at k s) (record { key = key; state = Scanning (id_of boot n); held = 1 }) same before

-- the context of a row that was put in before
pub held-key : (m : ℕ) (q1 q2 : Questions) (row row' : Asked) (key key' : ℕ) → q2 ≡ q1 → at q1 m ≡ Some (row, key) → Some (row', key') ≡ at q2 m → key' ≡ key
held-key m q1 q2 row row' key key' same found found' = ap (λ x. x.1) (some_same (row', key') (row, key) (found' ∙ (ap (λ q. at q m) same ∙ found)))
