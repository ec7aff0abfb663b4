-- How the first open of one question comes to wait for another, in its place.
use Rattle.std.proofs.Common.{◌⊎◌, ◌≡◌, ◌≢◌, ℕ, ◌+◌, ◌<◌, ◌≤◌, ◌==◌, Bool, true, false, List, [], ◌∷◌, Option, Some, None, IsSome, IsSomeAnd, IfSome, IfNone, cond, nat_le, map, refl, sym, ap, subst, ◌∙◌, inl, inr, arith}
use Rattle.std.specs.Map.{keys_of}
use Rattle.std.specs.List.Sorted.{IsStrictlySortedBy}
use Rattle.std.specs.Option.{option_or, option_map}
use Rattle.std.specs.Ordering.{nat_cmp}
use Rattle.std.proofs.lemmas.Bool.{cases_eq}
use Rattle.av_context.specs.Contexts.{at, with, without, PutsAt}
use Rattle.av_filter_table.specs.declared.asked.Asked.{Asked}
use Rattle.av_filter_table.specs.declared.waits.Waits.{Waits}
use Rattle.av_pend.specs.Waiting.{Waiting}
use Rattle.av_numbered.specs.Numbered.{IsAscending}
use Rattle.av_filter_table.specs.Chains.{Questions, Opens, IsChain, AreChained, longer, shorter, last_after, essences, waits_for, first_of, last_of, count_of, AreLinked, plain, plains, of, first_waiting, without_first, moved_first, IsBehind, after_first, once_more, is_spent}
use Rattle.av_filter_table.specs.FilterTable.{number_of, AreNumbered}
use Rattle.av_filter_table.proofs.ChainLemmas.{test-same, test-apart, apart-test, same-test, or-none, or-some, has_none, first-none, last_there, same_next, new_entry, above-there, some-first, Pops, pops, essences-set, first-there, chained-pops}
use Rattle.av_numbered.proofs.MapLemmas.{AreAbove, if_some, if_some_at, row_found, puts-ascends, keys-with, none_some, some_same, is_there, below-cmp, at-same, at-apart, at-none, head-above, tail-ascends, with-here, with-above, without-here, without-apart}
use Rattle.av_filter_table.proofs.TableLemmas.{first-none_of}

-- the first open of a question gone, and another entry in its place
abbrev pub popped : ℕ → Opens → Opens
popped n [] = []
popped n (d ∷ p) = cond (waits_for n d) p (d ∷ popped n p)

abbrev pub swapped : ℕ → ℕ × (Waits × Waiting) → Opens → Opens
swapped n e [] = []
swapped n e (d ∷ p) = cond (waits_for n d) (e ∷ p) (d ∷ swapped n e p)

-- what a first open is not, where the head is of its question, and where it is not
first-here : (n k : ℕ) (d : ℕ × (Waits × Waiting)) (p : Opens) → first_of n (d ∷ p) ≡ Some k → waits_for n d ≡ true → k ≡ d.0
first-here n k d p first h = sym (some_same d.0 k (sym (ap (λ b. cond b (Some d.0) (first_of n p)) h) ∙ first))

first-behind : (n : ℕ) (o : Option ℕ) (d : ℕ × (Waits × Waiting)) (p : Opens) → first_of n (d ∷ p) ≡ o → waits_for n d ≡ false → first_of n p ≡ o
first-behind n o d p first h = sym (ap (λ b. cond b (Some d.0) (first_of n p)) h) ∙ first

pub first-above : (j n k : ℕ) (p : Opens) → AreAbove j p → first_of n p ≡ Some k → j < k
first-above j n k [] above first = none_some first
first-above j n k (d ∷ p) above first = go (waits_for n d) refl (first-above j n k p above.1)
  where
    go : (b : Bool) → waits_for n d ≡ b → (first_of n p ≡ Some k → j < k) → j < k
    go true h rest = subst (λ i. j < i) (sym (first-here n k d p first h)) (below-cmp j d.0 above.0)
    go false h rest = rest (first-behind n (Some k) d p first h)

pub pop-is : (n k : ℕ) (p : Opens) → IsAscending p → first_of n p ≡ Some k → without p k ≡ popped n p
pop-is n k [] up first = none_some first
pop-is n k (d ∷ p) up first = go (waits_for n d) refl (pop-is n k p (tail-ascends d p up))
  where
    go : (b : Bool) → waits_for n d ≡ b → (first_of n p ≡ Some k → without p k ≡ popped n p) → without (d ∷ p) k ≡ popped n (d ∷ p)
    go true h rest = without-here p d.0 k d.1 (first-here n k d p first h) ∙ sym (ap (λ b. cond b p (d ∷ popped n p)) h)
    go false h rest =
        let first' = first-behind n (Some k) d p first h in
        let above = first-above d.0 n k p (head-above d p up) first' in
        without-apart p d.0 k d.1 (λ e. absurd (omega arith)) ∙ (ap (λ m. d ∷ m) (rest first') ∙ sym (ap (λ b. cond b p (d ∷ popped n p)) h))

pub swap-is : (n k : ℕ) (x : Waits × Waiting) (p : Opens) → IsAscending p → first_of n p ≡ Some k → with p k x ≡ swapped n (k, x) p
swap-is n k x [] up first = none_some first
swap-is n k x (d ∷ p) up first = go (waits_for n d) refl (swap-is n k x p (tail-ascends d p up))
  where
    go : (b : Bool) → waits_for n d ≡ b → (first_of n p ≡ Some k → with p k x ≡ swapped n (k, x) p) → with (d ∷ p) k x ≡ swapped n (k, x) (d ∷ p)
    go true h rest =
        let here = first-here n k d p first h in
        with-here p d.0 k d.1 x here ∙ (ap (λ j. (j, x) ∷ p) (sym here) ∙ sym (ap (λ b. cond b ((k, x) ∷ p) (d ∷ swapped n (k, x) p)) h))
    go false h rest =
        let first' = first-behind n (Some k) d p first h in
        with-above p d.0 k d.1 x (first-above d.0 n k p (head-above d p up) first') ∙ (ap (λ m. d ∷ m) (rest first') ∙ sym (ap (λ b. cond b ((k, x) ∷ p) (d ∷ swapped n (k, x) p)) h))

pub plains-popped : (n : ℕ) (p : Opens) → plains (popped n p) ≡ without_first n (plains p)
plains-popped n [] = refl
plains-popped n (d ∷ p) = go (waits_for n d) refl (plains-popped n p)
  where
    go : (b : Bool) → waits_for n d ≡ b → plains (popped n p) ≡ without_first n (plains p) → plains (popped n (d ∷ p)) ≡ without_first n (plains (d ∷ p))
    go true h rest = rw (h) refl
    go false h rest = rw (h) (ap (λ xs. plain d ∷ xs) rest)

-- two lists have one chain of a question
pub record Like (m : ℕ) (a b : Opens) : Type 0 where
  pub first : first_of m a ≡ first_of m b
  pub last : last_of m a ≡ last_of m b
  pub count : count_of m a ≡ count_of m b

like-popped : (n m : ℕ) (p : Opens) → m ≢ n → Like m (popped n p) p
like-popped n m [] apart = record { first = refl; last = refl; count = refl }
like-popped n m (d ∷ p) apart = go (waits_for n d) refl (like-popped n m p apart)
  where
    go : (b : Bool) → waits_for n d ≡ b → Like m (popped n p) p → Like m (popped n (d ∷ p)) (d ∷ p)
    go true h rest =
        let other : waits_for m d ≡ false = apart-test d.1.0.question m (λ e. apart (sym e ∙ test-same d.1.0.question n h)) in
        record { first = rw (h, other) refl; last = rw (h, other) (sym (or-none (last_of m p))); count = rw (h, other) refl }
    go false h rest = record {
      first = rw (h) (ap (cond (waits_for m d) (Some d.0)) rest.first);
      last = rw (h) (ap (λ o. option_or o (cond (waits_for m d) (Some d.0) None)) rest.last);
      count = rw (h) (ap (λ c. cond (waits_for m d) (c + 1) c) rest.count);
    }

like-swapped : (n m : ℕ) (e : ℕ × (Waits × Waiting)) (p : Opens) → waits_for m e ≡ false → Like m (swapped n e p) (popped n p)
like-swapped n m e [] other = record { first = refl; last = refl; count = refl }
like-swapped n m e (d ∷ p) other = go (waits_for n d) refl (like-swapped n m e p other)
  where
    go : (b : Bool) → waits_for n d ≡ b → Like m (swapped n e p) (popped n p) → Like m (swapped n e (d ∷ p)) (popped n (d ∷ p))
    go true h rest = record { first = rw (h, other) refl; last = rw (h, other) (or-none (last_of m p)); count = rw (h, other) refl }
    go false h rest = record {
      first = rw (h) (ap (cond (waits_for m d) (Some d.0)) rest.first);
      last = rw (h) (ap (λ o. option_or o (cond (waits_for m d) (Some d.0) None)) rest.last);
      count = rw (h) (ap (λ c. cond (waits_for m d) (c + 1) c) rest.count);
    }

-- the question that an open comes to has it behind its others
pub record Comes (n k : ℕ) (p p' : Opens) : Type 0 where
  pub first : first_of n p' ≡ option_or (first_of n p) (Some k)
  pub last : last_of n p' ≡ Some k
  pub count : count_of n p' ≡ count_of n p + 1

other-of : (old new : ℕ) (d : ℕ × (Waits × Waiting)) → old ≢ new → waits_for old d ≡ true → waits_for new d ≡ false
other-of old new d differ h = apart-test d.1.0.question new (λ e. differ (sym (test-same d.1.0.question old h) ∙ e))

behind-here : (old new : ℕ) (d : ℕ × (Waits × Waiting)) (p : Opens) → IsBehind old new (plains (d ∷ p)) → waits_for old d ≡ true → of new (plains p) ≡ []
behind-here old new d p behind h = sym (ap (λ b. of new (cond b (plains p) (after_first old (plains p)))) h) ∙ behind

behind-rest : (old new : ℕ) (d : ℕ × (Waits × Waiting)) (p : Opens) → IsBehind old new (plains (d ∷ p)) → waits_for old d ≡ false → IsBehind old new (plains p)
behind-rest old new d p behind h = sym (ap (λ b. of new (cond b (plains p) (after_first old (plains p)))) h) ∙ behind

comes : (old new k k' : ℕ) (w : Waiting) (p : Opens) → old ≢ new → IsBehind old new (plains p) → first_of old p ≡ Some k' → Comes new k p (swapped old (new_entry new k w) p)
comes old new k k' w [] differ behind first = none_some first
comes old new k k' w (d ∷ p) differ behind first = go (waits_for old d) refl (comes old new k k' w p differ)
  where
    go : (b : Bool) → waits_for old d ≡ b → (IsBehind old new (plains p) → first_of old p ≡ Some k' → Comes new k p (swapped old (new_entry new k w) p)) → Comes new k (d ∷ p) (swapped old (new_entry new k w) (d ∷ p))
    go true h rest =
        let no_first = first-none_of new p (behind-here old new d p behind h) in
        let none = has_none new p no_first in
        let other = other-of old new d differ h in
        record {
          first = rw (h, other, same-test new, no_first) refl;
          last = rw (h, same-test new, none.last) refl;
          count = rw (h, other, same-test new) refl;
        }
    go false h rest =
        let tail = rest (behind-rest old new d p behind h) (first-behind old (Some k') d p first h) in
        record {
          first = rw (h) (ap (cond (waits_for new d) (Some d.0)) tail.first ∙ by_test (waits_for new d));
          last = rw (h, tail.last) refl;
          count = rw (h) (ap (λ c. cond (waits_for new d) (c + 1) c) tail.count ∙ by_count (waits_for new d));
        }
      where
        by_test : (b : Bool) → cond b (Some d.0) (option_or (first_of new p) (Some k)) ≡ option_or (cond b (Some d.0) (first_of new p)) (Some k)
        by_test true = refl
        by_test false = refl

        by_count : (b : Bool) → cond b (count_of new p + 1 + 1) (count_of new p + 1) ≡ cond b (count_of new p + 1) (count_of new p) + 1
        by_count true = refl
        by_count false = refl

-- the links, where none waits for the new question yet
linked-none : (old new k : ℕ) (w : Waiting) (p : Opens) → old ≢ new → first_of new p ≡ None → AreLinked p → AreLinked (swapped old (new_entry new k w) p)
linked-none old new k w [] differ none linked = tt
linked-none old new k w (d ∷ p) differ none linked = by_new (waits_for new d) refl (waits_for old d) refl (linked-none old new k w p differ)
  where
    by_new : (c : Bool) → waits_for new d ≡ c → (b : Bool) → waits_for old d ≡ b → (first_of new p ≡ None → AreLinked p → AreLinked (swapped old (new_entry new k w) p)) → AreLinked (swapped old (new_entry new k w) (d ∷ p))
    by_new true g b h rest = none_some (sym none ∙ ap (λ b. cond b (Some d.0) (first_of new p)) g)
    by_new false g true h rest = rw (h) (sym (first-behind new None d p none g), linked.1)
    by_new false g false h rest =
        let not_new = apart-test new d.1.0.question (λ e. test-apart d.1.0.question new g (sym e)) in
        rw (h) (
          linked.0 ∙ sym ((like-swapped old d.1.0.question (new_entry new k w) p not_new).first ∙ (like-popped old d.1.0.question p (test-apart d.1.0.question old h)).first),
          rest (first-behind new None d p none g) linked.1,
        )

-- the numbers stay, and so does what is at another open
keys-swapped : (n k : ℕ) (x : Waits × Waiting) (p : Opens) → first_of n p ≡ Some k → keys_of (swapped n (k, x) p) ≡ keys_of p
keys-swapped n k x [] first = refl
keys-swapped n k x (d ∷ p) first = go (waits_for n d) refl (keys-swapped n k x p)
  where
    go : (b : Bool) → waits_for n d ≡ b → (first_of n p ≡ Some k → keys_of (swapped n (k, x) p) ≡ keys_of p) → keys_of (swapped n (k, x) (d ∷ p)) ≡ keys_of (d ∷ p)
    go true h rest = rw (h) (ap (λ j. j ∷ keys_of p) (first-here n k d p first h))
    go false h rest = rw (h) (ap (λ ks. d.0 ∷ ks) (rest (first-behind n (Some k) d p first h)))

at-swapped : (n k l : ℕ) (x y : Waits × Waiting) (p : Opens) → first_of n p ≡ Some k → at p l ≡ Some y → y.0.question ≢ n → at (swapped n (k, x) p) l ≡ Some y
at-swapped n k l x y [] first found apart = none_some found
at-swapped n k l x y (d ∷ p) first found apart = go (waits_for n d) refl (cases_eq l d.0) (at-swapped n k l x y p)
  where
    go : (b : Bool) → waits_for n d ≡ b → (l ≡ d.0) ⊎ (l ≢ d.0) → (first_of n p ≡ Some k → at p l ≡ Some y → y.0.question ≢ n → at (swapped n (k, x) p) l ≡ Some y) → at (swapped n (k, x) (d ∷ p)) l ≡ Some y
    go true h (inl same) rest = absurd (apart (ap (λ z. z.0.question) (some_same y d.1 (sym found ∙ (ap (at (d ∷ p)) same ∙ at-same p d.0 d.1))) ∙ test-same d.1.0.question n h))
    go true h (inr differs) rest = rw (h) (at-apart p k l x (λ e. differs (e ∙ first-here n k d p first h)) ∙ (sym (at-apart p d.0 l d.1 differs) ∙ found))
    go false h (inl same) rest = rw (h) (ap (at (d ∷ swapped n (k, x) p)) same ∙ (at-same (swapped n (k, x) p) d.0 d.1 ∙ (sym (at-same p d.0 d.1) ∙ (ap (at (d ∷ p)) (sym same) ∙ found))))
    go false h (inr differs) rest = rw (h) (at-apart (swapped n (k, x) p) d.0 l d.1 differs ∙ rest (first-behind n (Some k) d p first h) (sym (at-apart p d.0 l d.1 differs) ∙ found) apart)

swapped-ascends : (n k : ℕ) (x : Waits × Waiting) (p : Opens) → first_of n p ≡ Some k → IsAscending p → IsAscending (swapped n (k, x) p)
swapped-ascends n k x p first up = subst (IsStrictlySortedBy nat_cmp) (sym (keys-swapped n k x p first)) up

-- the links, where the last that waits for the new question gets one more
linked-some : (old new k l : ℕ) (w : Waiting) (row : Waits) (v : Waiting) (p : Opens) → old ≢ new → IsAscending p → AreLinked p → IsBehind old new (plains p) → first_of old p ≡ Some k → last_of new p ≡ Some l → at p l ≡ Some (row, v)
    → AreLinked (with (swapped old (new_entry new k w) p) l (record row { next = Some k }, v))
linked-some old new k l w row v [] differ up linked behind first last found = none_some last
linked-some old new k l w row v (d ∷ p) differ up linked behind first last found = go (waits_for old d) refl (last_of new p) refl (linked-some old new k l w row v p differ (tail-ascends d p up) linked.1)
  where
    e : ℕ × (Waits × Waiting)
    e = new_entry new k w

    last_tail : (o : Option ℕ) → last_of new p ≡ o → option_or o (cond (waits_for new d) (Some d.0) None) ≡ Some l
    last_tail o is = sym (ap (λ o. option_or o (cond (waits_for new d) (Some d.0) None)) is) ∙ last

    put_tail : (r : Opens) → r ≡ d ∷ swapped old e p → AreLinked (with (d ∷ swapped old e p) l (record row { next = Some k }, v)) → AreLinked (with r l (record row { next = Some k }, v))
    put_tail r is holds = subst (λ m. AreLinked (with m l (record row { next = Some k }, v))) (sym is) holds

    go : (b : Bool) → waits_for old d ≡ b → (o : Option ℕ) → last_of new p ≡ o
        → (IsBehind old new (plains p) → first_of old p ≡ Some k → last_of new p ≡ Some l → at p l ≡ Some (row, v) → AreLinked (with (swapped old e p) l (record row { next = Some k }, v)))
        → AreLinked (with (swapped old e (d ∷ p)) l (record row { next = Some k }, v))
    go true h o is rest =
        let none = has_none new p (first-none_of new p (behind-here old new d p behind h)) in
        none_some (sym (ap (λ b. cond b (Some d.0) None) (other-of old new d differ h)) ∙ (sym (ap (λ o. option_or o (cond (waits_for new d) (Some d.0) None)) none.last) ∙ last))
    go false h None is rest = by_test (waits_for new d) refl
      where
        by_test : (c : Bool) → waits_for new d ≡ c → AreLinked (with (swapped old e (d ∷ p)) l (record row { next = Some k }, v))
        by_test false g = none_some (sym (ap (λ b. cond b (Some d.0) None) g) ∙ last_tail None is)
        by_test true g =
            let here : l ≡ d.0 = sym (some_same d.0 l (sym (ap (λ b. cond b (Some d.0) None) g) ∙ last_tail None is)) in
            let entry : d.1 ≡ (row, v) = some_same d.1 (row, v) (sym (at-same p d.0 d.1) ∙ (ap (at (d ∷ p)) (sym here) ∙ found)) in
            let question : row.question ≡ new = sym (ap (λ y. y.0.question) entry) ∙ test-same d.1.0.question new g in
            let nothing = first-none new p is in
            let tail = comes old new k k w p differ (behind-rest old new d p behind h) (first-behind old (Some k) d p first h) in
            put_tail (swapped old e (d ∷ p)) (ap (λ b. cond b (e ∷ p) (d ∷ swapped old e p)) h)
            (subst AreLinked (sym (with-here (swapped old e p) d.0 l d.1 (record row { next = Some k }, v) here))
            (sym (ap (λ q. first_of q (swapped old e p)) question ∙ (tail.first ∙ ap (λ o. option_or o (Some k)) nothing)), linked-none old new k w p differ nothing linked.1))
    go false h (Some y) is rest =
        let last' : last_of new p ≡ Some l = is ∙ last_tail (Some y) is in
        let first' = first-behind old (Some k) d p first h in
        let behind' = behind-rest old new d p behind h in
        let there = last_there new l p (tail-ascends d p up) last' in
        let apart : l ≢ d.0 = λ s. none_some (sym (at-none p d.0 (head-above d p up)) ∙ (ap (at p) (sym s) ∙ there.found)) in
        let found' : at p l ≡ Some (row, v) = sym (at-apart p d.0 l d.1 apart) ∙ found in
        let below : d.0 < l = above-there p d.0 l (head-above d p up) (is_there (at p l) (row, v) found') in
        let question : row.question ≡ new = ap (λ z. z.0.question) (some_same (row, v) (there.row, there.value) (sym found' ∙ there.found)) ∙ there.of_n in
        let at_l : at (swapped old e p) l ≡ Some (row, v) = at-swapped old k l e.1 (row, v) p first' found' (λ s. differ (sym s ∙ question)) in
        let same = same_next (swapped old e p) l row (record row { next = Some k }) v (swapped-ascends old k e.1 p first' (tail-ascends d p up)) at_l refl in
        let tail = comes old new k k w p differ behind' first' in
        put_tail (swapped old e (d ∷ p)) (ap (λ b. cond b (e ∷ p) (d ∷ swapped old e p)) h)
        (subst AreLinked (sym (with-above (swapped old e p) d.0 l d.1 (record row { next = Some k }, v) below))
        (linked.0 ∙ sym (same.firsts d.1.0.question ∙ by_question (cases_eq d.1.0.question new) tail.first last'), rest behind' first' last' found'))
      where
        by_question : (d.1.0.question ≡ new) ⊎ (d.1.0.question ≢ new) → first_of new (swapped old e p) ≡ option_or (first_of new p) (Some k) → last_of new p ≡ Some l → first_of d.1.0.question (swapped old e p) ≡ first_of d.1.0.question p
        by_question (inl s) comes_first last' =
            ap (λ q. first_of q (swapped old e p)) s ∙ (comes_first ∙ (or-some (first_of new p) (Some k) (some-first new p l last') ∙ sym (ap (λ q. first_of q p) s)))
        by_question (inr s) comes_first last' =
            (like-swapped old d.1.0.question e p (apart-test new d.1.0.question (λ t. s (sym t)))).first ∙ (like-popped old d.1.0.question p (test-apart d.1.0.question old h)).first

-- an open moved from one question to another, in its place
pub record Moves (old new k : ℕ) (w : Waiting) (p p' : Opens) : Type 0 where
  pub linked : AreLinked p'
  pub plains_are : plains p' ≡ plains (swapped old (new_entry new k w) p)
  pub keys : keys_of p' ≡ keys_of p
  pub likes : (m : ℕ) → m ≢ new → Like m p' (popped old p)
  pub come : Comes new k p p'

pub moves-none : (old new k : ℕ) (w : Waiting) (p : Opens) → old ≢ new → AreLinked p → IsBehind old new (plains p) → first_of old p ≡ Some k → last_of new p ≡ None → Moves old new k w p (swapped old (new_entry new k w) p)
moves-none old new k w p differ linked behind first last = record {
  linked = linked-none old new k w p differ (first-none new p last) linked;
  plains_are = refl;
  keys = keys-swapped old k (new_entry new k w).1 p first;
  likes = λ m apart. like-swapped old m (new_entry new k w) p (apart-test new m (λ e. apart (sym e)));
  come = comes old new k k w p differ behind first;
}

pub moves-some : (old new k l : ℕ) (w : Waiting) (row : Waits) (v : Waiting) (p : Opens) → old ≢ new → IsAscending p → AreLinked p → IsBehind old new (plains p) → first_of old p ≡ Some k → last_of new p ≡ Some l → at p l ≡ Some (row, v) → row.question ≡ new
    → Moves old new k w p (with (swapped old (new_entry new k w) p) l (record row { next = Some k }, v))
moves-some old new k l w row v p differ up linked behind first last found of_new =
    let e = new_entry new k w in
    let at_l : at (swapped old e p) l ≡ Some (row, v) = at-swapped old k l e.1 (row, v) p first found (λ s. differ (sym s ∙ of_new)) in
    let up' = swapped-ascends old k e.1 p first up in
    let same = same_next (swapped old e p) l row (record row { next = Some k }) v up' at_l refl in
    let come = comes old new k k w p differ behind first in
    record {
      linked = linked-some old new k l w row v p differ up linked behind first last found;
      plains_are = same.plains_same;
      keys = keys-with (swapped old e p) l (record row { next = Some k }, v) up' (is_there (at (swapped old e p) l) (row, v) at_l) ∙ keys-swapped old k e.1 p first;
      likes = λ m apart.
          let like = like-swapped old m e p (apart-test new m (λ e. apart (sym e))) in
          record { first = same.firsts m ∙ like.first; last = same.lasts m ∙ like.last; count = same.counts m ∙ like.count };
      come = record { first = same.firsts new ∙ come.first; last = same.lasts new ∙ come.last; count = same.counts new ∙ come.count };
    }

-- the first open of a question as it is found, by its number and among all
pub find-first : (n k : ℕ) (row : Waits) (v : Waiting) (p : Opens) → IsAscending p → first_of n p ≡ Some k → at p k ≡ Some (row, v) → first_waiting n (plains p) ≡ Some (row.question, v)
find-first n k row v [] up first found = none_some first
find-first n k row v (d ∷ p) up first found = go (waits_for n d) refl (find-first n k row v p (tail-ascends d p up))
  where
    go : (b : Bool) → waits_for n d ≡ b → (first_of n p ≡ Some k → at p k ≡ Some (row, v) → first_waiting n (plains p) ≡ Some (row.question, v)) → first_waiting n (plains (d ∷ p)) ≡ Some (row.question, v)
    go true h rest =
        let entry : d.1 ≡ (row, v) = some_same d.1 (row, v) (sym (at-same p d.0 d.1) ∙ (ap (at (d ∷ p)) (sym (first-here n k d p first h)) ∙ found)) in
        rw (h) (ap (λ x. Some (x.0.question, x.1)) entry)
    go false h rest =
        let first' = first-behind n (Some k) d p first h in
        let above = first-above d.0 n k p (head-above d p up) first' in
        rw (h) (rest first' (sym (at-apart p d.0 k d.1 (λ e. absurd (omega arith))) ∙ found))

pub find-none : (n : ℕ) (p : Opens) → first_of n p ≡ None → first_waiting n (plains p) ≡ None
find-none n [] none = refl
find-none n (d ∷ p) none = go (waits_for n d) refl (find-none n p)
  where
    go : (b : Bool) → waits_for n d ≡ b → (first_of n p ≡ None → first_waiting n (plains p) ≡ None) → first_waiting n (plains (d ∷ p)) ≡ None
    go true h rest = none_some (sym none ∙ ap (λ b. cond b (Some d.0) (first_of n p)) h)
    go false h rest = rw (h) (rest (first-behind n None d p none h))

pub plains-swapped : (old new k : ℕ) (row : Waits) (v : Waiting) (p : Opens) → IsAscending p → first_of old p ≡ Some k → at p k ≡ Some (row, v) → plains (swapped old (new_entry new k (once_more v)) p) ≡ moved_first old new (plains p)
plains-swapped old new k row v [] up first found = none_some first
plains-swapped old new k row v (d ∷ p) up first found = go (waits_for old d) refl (plains-swapped old new k row v p (tail-ascends d p up))
  where
    go : (b : Bool) → waits_for old d ≡ b → (first_of old p ≡ Some k → at p k ≡ Some (row, v) → plains (swapped old (new_entry new k (once_more v)) p) ≡ moved_first old new (plains p))
        → plains (swapped old (new_entry new k (once_more v)) (d ∷ p)) ≡ moved_first old new (plains (d ∷ p))
    go true h rest =
        let entry : d.1 ≡ (row, v) = some_same d.1 (row, v) (sym (at-same p d.0 d.1) ∙ (ap (at (d ∷ p)) (sym (first-here old k d p first h)) ∙ found)) in
        rw (h) (ap (λ x. (new, once_more x.1) ∷ plains p) (sym entry))
    go false h rest =
        let first' = first-behind old (Some k) d p first h in
        let above = first-above d.0 old k p (head-above d p up) first' in
        rw (h) (ap (λ xs. plain d ∷ xs) (rest first' (sym (at-apart p d.0 k d.1 (λ e. absurd (omega arith))) ∙ found)))

-- what `move_first` does
pub record Moved (old new : ℕ) (q q' : Questions) (p p' : Opens) : Type 0 where
  pub moved : plains p' ≡ moved_first old new (plains p)
  pub keys : keys_of p' ≡ keys_of p
  pub chained : AreChained q' p'
  pub same : essences q' ≡ essences q

-- the chains after a move
chained-moves : (old new k : ℕ) (w : Waiting) (q q1 q' : Questions) (p p' : Opens) (x y : Asked) (a b : ℕ) (row : Waits) → old ≢ new → AreChained q p → at q old ≡ Some (x, a) → at q new ≡ Some (y, b)
    → row.next ≡ first_of old (popped old p) → (pop : Pops old k p) → without p k ≡ popped old p → Moves old new k w p p' → PutsAt q q1 old (Some (shorter x row.next, a)) → PutsAt q1 q' new (Some (longer y k, b)) → AreChained q' p'
chained-moves old new k w q q1 q' p p' x y a b row differ chained at_old at_new next pop gone moves put_old put_new = record {
  linked = moves.linked;
  ends = λ m. if_some (λ z. IsChain z.0 m p') (at q' m) (λ z at_m. elim (cases_eq m new) [
    | inl same ↦ subst (λ j. IsChain z.0 j p') (sym same) (subst (λ u. IsChain u.0 new p') (some_same (longer y k, b) z (sym put_new.here ∙ (ap (at q') (sym same) ∙ at_m))) is_new)
    | inr apart ↦ elim (cases_eq m old) [
      | inl same ↦ subst (λ j. IsChain z.0 j p') (sym same) (subst (λ u. IsChain u.0 old p') (some_same (shorter x row.next, a) z (sym put_old.here ∙ (sym (put_new.others old differ) ∙ (ap (at q') (sym same) ∙ at_m)))) is_old)
      | inr other ↦
          let before = if_some_at (λ u. IsChain u.0 m p) (at q m) z (chained.ends m) (sym (put_old.others m other) ∙ (sym (put_new.others m apart) ∙ at_m)) in
          let like = moves.likes m apart in
          let pops = like-popped old m p other in
          record { first = before.first ∙ sym (like.first ∙ pops.first); last = before.last ∙ sym (like.last ∙ pops.last); opens = before.opens ∙ sym (like.count ∙ pops.count) }
    ]
  ]);
}
  where
    was_new : IsChain y new p
    was_new = if_some_at (λ z. IsChain z.0 new p) (at q new) (y, b) (chained.ends new) at_new

    was_old : IsChain x old p
    was_old = if_some_at (λ z. IsChain z.0 old p) (at q old) (x, a) (chained.ends old) at_old

    is_new : IsChain (longer y k) new p'
    is_new = record {
      first = ap (λ o. option_or o (Some k)) was_new.first ∙ sym moves.come.first;
      last = sym moves.come.last;
      opens = ap (λ c. c + 1) was_new.opens ∙ sym moves.come.count;
    }

    last : (o : Option ℕ) → row.next ≡ o → last_after o x.last ≡ last_of old (popped old p)
    last None none = sym (has_none old (popped old p) (sym next ∙ none)).last
    last (Some j) some = was_old.last ∙ sym (ap (last_of old) (sym gone) ∙ pop.last (subst (λ m. IsSome (first_of old m)) (sym gone) (is_there (first_of old (popped old p)) j (sym next ∙ some))))

    is_old : IsChain (shorter x row.next) old p'
    is_old =
        let like = moves.likes old differ in
        record {
          first = next ∙ sym like.first;
          last = last row.next refl ∙ sym like.last;
          opens =
              let count = pop.count in
              let before = was_old.opens in
              let after : count_of old p' ≡ count_of old (without p k) = like.count ∙ ap (count_of old) (sym gone) in
              omega arith;
        }

pub moved : (old new k : ℕ) (q q1 q' : Questions) (p p1 p' : Opens) (x y : Asked) (row : Waits) (v w : Waiting) → old ≢ new → IsAscending q → IsAscending p → AreChained q p → IsBehind old new (plains p)
    → Some x ≡ option_map (λ z. z.0) (at q old) → Some y ≡ option_map (λ z. z.0) (at q new) → x.first ≡ Some k → at p k ≡ Some (row, v) → w ≡ once_more v
    → PutsAt p p1 k (Some (record { question = new; next = None }, w))
    → IfNone y.last (p' ≡ p1) → IfSome y.last (λ l. IfSome (at p1 l) (λ z. p' ≡ with p1 l (record z.0 { next = Some k }, z.1)))
    → PutsAt q q1 old (option_map (λ z. (shorter x row.next, z.1)) (at q old)) → PutsAt q1 q' new (option_map (λ z. (longer y k, z.1)) (at q1 new)) → Moved old new q q' p p'
moved old new k q q1 q' p p1 p' x y row v w differ up_q up chained behind row_x row_y first found w_is put if_none if_last put_old put_new = by_last y.last refl
  where
    found_x : (a : ℕ) × (at q old ≡ Some (x, a))
    found_x = row_found (at q old) x row_x

    found_y : (b : ℕ) × (at q new ≡ Some (y, b))
    found_y = row_found (at q new) y row_y

    first_p : first_of old p ≡ Some k
    first_p = sym (if_some_at (λ z. IsChain z.0 old p) (at q old) (x, found_x.0) (chained.ends old) found_x.1).first ∙ first

    last_p : y.last ≡ last_of new p
    last_p = (if_some_at (λ z. IsChain z.0 new p) (at q new) (y, found_y.0) (chained.ends new) found_y.1).last

    pop : Pops old k p
    pop = pops old k p up chained.linked first_p

    gone : without p k ≡ popped old p
    gone = pop-is old k p up first_p

    next : row.next ≡ first_of old (popped old p)
    next = ap (λ z. z.0.next) (some_same (row, v) (pop.row, pop.value) (sym found ∙ pop.found)) ∙ (pop.next ∙ ap (first_of old) gone)

    set_old : PutsAt q q1 old (Some (shorter x row.next, found_x.0))
    set_old = subst (PutsAt q q1 old) (ap (option_map (λ z. (shorter x row.next, z.1))) found_x.1) put_old

    at_new : at q1 new ≡ Some (y, found_y.0)
    at_new = set_old.others new (λ e. differ (sym e)) ∙ found_y.1

    set_new : PutsAt q1 q' new (Some (longer y k, found_y.0))
    set_new = subst (PutsAt q1 q' new) (ap (option_map (λ z. (longer y k, z.1))) at_new) put_new

    up_1 : IsAscending q1
    up_1 = puts-ascends q q1 old (Some (shorter x row.next, found_x.0)) set_old up_q

    is_swapped : p1 ≡ swapped old (new_entry new k w) p
    is_swapped = put.whole ∙ swap-is old k (record { question = new; next = None }, w) p up first_p

    finish : (p2 : Opens) → p' ≡ p2 → Moves old new k w p p2 → Moved old new q q' p p'
    finish p2 is moves = record {
      moved = ap plains is ∙ (moves.plains_are ∙ (ap (λ u. plains (swapped old (new_entry new k u) p)) w_is ∙ plains-swapped old new k row v p up first_p found));
      keys = ap keys_of is ∙ moves.keys;
      chained = subst (AreChained q') (sym is) (chained-moves old new k w q q1 q' p p2 x y found_x.0 found_y.0 row differ chained found_x.1 found_y.1 next pop gone moves set_old set_new);
      same = essences-set q1 q' new y (longer y k) found_y.0 up_1 (puts-ascends q1 q' new (Some (longer y k, found_y.0)) set_new up_1) at_new set_new refl refl refl
          ∙ essences-set q q1 old x (shorter x row.next) found_x.0 up_q up_1 found_x.1 set_old refl refl refl;
    }

    by_last : (o : Option ℕ) → y.last ≡ o → Moved old new q q' p p'
    by_last None none =
        finish (swapped old (new_entry new k w) p) (subst (λ o. IfNone o (p' ≡ p1)) none if_none ∙ is_swapped)
        (moves-none old new k w p differ chained.linked behind first_p (sym last_p ∙ none))
    by_last (Some l) some =
        let there = last_there new l p up (sym last_p ∙ some) in
        let at_l : at (swapped old (new_entry new k w) p) l ≡ Some (there.row, there.value) = at-swapped old k l (record { question = new; next = None }, w) (there.row, there.value) p first_p there.found (λ s. differ (sym s ∙ there.of_n)) in
        let set : p' ≡ with p1 l (record there.row { next = Some k }, there.value) =
        if_some_at (λ z. p' ≡ with p1 l (record z.0 { next = Some k }, z.1)) (at p1 l) (there.row, there.value) (subst (λ o. IfSome o (λ l. IfSome (at p1 l) (λ z. p' ≡ with p1 l (record z.0 { next = Some k }, z.1)))) some if_last) (ap (λ m. at m l) is_swapped ∙ at_l) in
        finish (with (swapped old (new_entry new k w) p) l (record there.row { next = Some k }, there.value))
        (set ∙ ap (λ m. with m l (record there.row { next = Some k }, there.value)) is_swapped)
        (moves-some old new k l w there.row there.value p differ up chained.linked behind first_p (sym last_p ∙ some) there.found there.of_n)

-- the last open of the question that one comes to is there, also with that one in its place
pub moved-link : (old new k : ℕ) (q : Questions) (p p1 : Opens) (x y : Asked) (w : Waiting) → old ≢ new → IsAscending p → AreChained q p → Some x ≡ option_map (λ z. z.0) (at q old) → Some y ≡ option_map (λ z. z.0) (at q new) → x.first ≡ Some k
    → PutsAt p p1 k (Some (record { question = new; next = None }, w)) → IfSome y.last (λ l. IsSome (at p1 l))
moved-link old new k q p p1 x y w differ up chained row_x row_y first put = if_some (λ l. IsSome (at p1 l)) y.last (λ l is.
    let found_y = row_found (at q new) y row_y in
    let chain = if_some_at (λ z. IsChain z.0 new p) (at q new) (y, found_y.0) (chained.ends new) found_y.1 in
    let there = last_there new l p up (sym chain.last ∙ is) in
    let pop = first-there old k q p x up chained row_x first in
    is_there (at p1 l) (there.row, there.value) (put.others l (λ e. differ (sym pop.of_n ∙ (ap (λ z. z.0.question) (some_same (pop.row, pop.value) (there.row, there.value) (sym pop.found ∙ (ap (at p) (sym e) ∙ there.found))) ∙ there.of_n))) ∙ there.found))

pub numbered-moved : (old new : ℕ) (p p' : Opens) → AreNumbered p → keys_of p' ≡ keys_of p → plains p' ≡ moved_first old new (plains p) → AreNumbered p'
numbered-moved old new p p' numbered keys is = keys ∙ (numbered ∙ sym (ap (map number_of) is ∙ numbers (plains p)))
  where
    numbers : (xs : List (ℕ × Waiting)) → map number_of (moved_first old new xs) ≡ map number_of xs
    numbers [] = refl
    numbers (x ∷ xs) = go (x.0 == old) refl (numbers xs)
      where
        go : (b : Bool) → (x.0 == old) ≡ b → map number_of (moved_first old new xs) ≡ map number_of xs → map number_of (moved_first old new (x ∷ xs)) ≡ map number_of (x ∷ xs)
        go true h rest = rw (h) refl
        go false h rest = rw (h) (ap (λ ns. number_of x ∷ ns) rest)

-- the first open of a question, found by its number
pub record FirstRow (n k : ℕ) (p : Opens) : Type 0 where
  pub row : Waits
  pub value : Waiting
  pub found : at p k ≡ Some (row, value)
  pub waiting : first_waiting n (plains p) ≡ Some (row.question, value)

pub first_row : (n k : ℕ) (q : Questions) (p : Opens) (x : Asked) → IsAscending p → AreChained q p → Some x ≡ option_map (λ y. y.0) (at q n) → x.first ≡ Some k → FirstRow n k p
first_row n k q p x up chained is_row is_first =
    let found = row_found (at q n) x is_row in
    let chain = if_some_at (λ z. IsChain z.0 n p) (at q n) (x, found.0) (chained.ends n) found.1 in
    let pop = first-there n k q p x up chained is_row is_first in
    record { row = pop.row; value = pop.value; found = pop.found; waiting = find-first n k pop.row pop.value p up (sym chain.first ∙ is_first) pop.found }

pub waiting-none : (n : ℕ) (q : Questions) (p : Opens) (x : Asked) → AreChained q p → Some x ≡ option_map (λ y. y.0) (at q n) → x.first ≡ None → first_waiting n (plains p) ≡ None
waiting-none n q p x chained is_row is_first =
    let found = row_found (at q n) x is_row in
    let chain = if_some_at (λ z. IsChain z.0 n p) (at q n) (x, found.0) (chained.ends n) found.1 in
    find-none n p (sym chain.first ∙ is_first)

pub waiting-some : (n : ℕ) (p : Opens) (held : Waiting) (rescans : ℕ) (v : Waiting) (m : ℕ) → rescans ≡ held.rescans → Some held ≡ Some v → first_waiting n (plains p) ≡ Some (m, v) → Some (nat_le 8 rescans) ≡ option_map is_spent (first_waiting n (plains p))
waiting-some n p held rescans v m is same waiting =
    ap (λ r. Some (nat_le 8 r)) (is ∙ ap (λ w. w.rescans) (some_same held v same)) ∙ sym (ap (option_map is_spent) waiting)

pub rest-popped : (n k : ℕ) (q : Questions) (p : Opens) (x : Asked) → IsAscending p → AreChained q p → Some x ≡ option_map (λ y. y.0) (at q n) → x.first ≡ Some k → plains (without p k) ≡ without_first n (plains p)
rest-popped n k q p x up chained is_row is_first =
    let found = row_found (at q n) x is_row in
    let chain = if_some_at (λ z. IsChain z.0 n p) (at q n) (x, found.0) (chained.ends n) found.1 in
    ap plains (pop-is n k p up (sym chain.first ∙ is_first)) ∙ plains-popped n p

-- an exchange that counts one rescan more
pub exchanged-at : (p p1 : Opens) (k : ℕ) (row old_row : Waits) (v : Waiting) (Q : Waiting → Waiting → Type 0) → ((u w : Waiting) → Q u w → w ≡ once_more u) → at p k ≡ Some (old_row, v)
    → IfSome (at p k) (λ a. IsSomeAnd (at p1 k) (λ b. Q a.1 b.1 × PutsAt p p1 k (Some (row, b.1)))) → PutsAt p p1 k (Some (row, once_more v))
exchanged-at p p1 k row old_row v Q is found holds = by_new (at p1 k) (if_some_at (λ a. IsSomeAnd (at p1 k) (λ b. Q a.1 b.1 × PutsAt p p1 k (Some (row, b.1)))) (at p k) (old_row, v) holds found)
  where
    by_new : (o : Option (Waits × Waiting)) → IsSomeAnd o (λ b. Q v b.1 × PutsAt p p1 k (Some (row, b.1))) → PutsAt p p1 k (Some (row, once_more v))
    by_new None none = absurd none
    by_new (Some b) h = subst (λ w. PutsAt p p1 k (Some (row, w))) (is v b.1 h.0) h.1

pub left_rescans : (n k : ℕ) (p : Opens) (a : Waits × Waiting) → at p k ≡ Some a → FirstRow n k p → IsSomeAnd (first_waiting n (plains p)) (λ x. x.1.rescans < 8) → a.1.rescans < 8
left_rescans n k p a at_k r left =
    subst (λ w. w.rescans < 8) (ap (λ z. z.1) (some_same (r.row, r.value) a (sym r.found ∙ at_k))) (subst (λ o. IsSomeAnd o (λ x. x.1.rescans < 8)) r.waiting left)

-- the first of all opens goes out
pub record PopsAll (q q' : Questions) (p' : Opens) : Type 0 where
  pub chained : AreChained q' p'
  pub same : essences q' ≡ essences q

pop-head : (d : ℕ × (Waits × Waiting)) (p : Opens) → IsAscending (d ∷ p) → AreLinked (d ∷ p) → Pops d.1.0.question d.0 (d ∷ p)
pop-head d p up linked = pops d.1.0.question d.0 (d ∷ p) up linked (ap (λ b. cond b (Some d.0) (first_of d.1.0.question p)) (same-test d.1.0.question))

pub head-opens : (q : Questions) (d : ℕ × (Waits × Waiting)) (p : Opens) → IsAscending (d ∷ p) → AreChained q (d ∷ p) → IfSome (at q d.1.0.question) (λ x. 1 ≤ x.0.opens)
head-opens q d p up chained = if_some (λ x. 1 ≤ x.0.opens) (at q d.1.0.question) (λ x at_n.
    let opens = (if_some_at (λ z. IsChain z.0 d.1.0.question (d ∷ p)) (at q d.1.0.question) x (chained.ends d.1.0.question) at_n).opens in
    let count = (pop-head d p up chained.linked).count in
    omega arith)

pub pops-all : (q q' : Questions) (d : ℕ × (Waits × Waiting)) (p : Opens) → IsAscending q → IsAscending (d ∷ p) → AreChained q (d ∷ p)
    → IfNone (at q d.1.0.question) (q' ≡ q) → IfSome (at q d.1.0.question) (λ x. PutsAt q q' d.1.0.question (Some (shorter x.0 d.1.0.next, x.1))) → PopsAll q q' p
pops-all q q' d p up_q up chained if_none if_there = by_question (at q n) refl
  where
    n : ℕ
    n = d.1.0.question

    pop : Pops n d.0 (d ∷ p)
    pop = pop-head d p up chained.linked

    gone : without (d ∷ p) d.0 ≡ p
    gone = without-here p d.0 d.0 d.1 refl

    by_question : (o : Option (Asked × ℕ)) → at q n ≡ o → PopsAll q q' p
    by_question None none =
        let same : q' ≡ q = subst (λ o. IfNone o (q' ≡ q)) none if_none in
        record {
          chained = subst (λ r. AreChained r p) (sym same) (record {
            linked = chained.linked.1;
            ends = λ m. if_some (λ z. IsChain z.0 m p) (at q m) (λ z at_m.
                let apart : m ≢ n = λ e. none_some (sym none ∙ (ap (at q) (sym e) ∙ at_m)) in
                let before = if_some_at (λ y. IsChain y.0 m (d ∷ p)) (at q m) z (chained.ends m) at_m in
                record {
                  first = before.first ∙ (sym (pop.firsts m apart) ∙ ap (first_of m) gone);
                  last = before.last ∙ (sym (pop.lasts m apart) ∙ ap (last_of m) gone);
                  opens = before.opens ∙ (sym (pop.counts m apart) ∙ ap (count_of m) gone);
                });
          });
          same = ap essences same;
        }
    by_question (Some x) there =
        let row : pop.row ≡ d.1.0 = ap (λ y. y.0) (some_same (pop.row, pop.value) d.1 (sym pop.found ∙ at-same p d.0 d.1)) in
        let puts : PutsAt q q' n (Some (shorter x.0 d.1.0.next, x.1)) = if_some_at (λ x. PutsAt q q' n (Some (shorter x.0 d.1.0.next, x.1))) (at q n) x if_there there in
        record {
          chained = subst (AreChained q') gone (chained-pops n d.0 q q' (d ∷ p) x.0 x.1 pop chained there (subst (λ r. PutsAt q q' n (Some (shorter x.0 r.next, x.1))) (sym row) puts));
          same = essences-set q q' n x.0 (shorter x.0 d.1.0.next) x.1 up_q (puts-ascends q q' n (Some (shorter x.0 d.1.0.next, x.1)) puts up_q) there puts refl refl refl;
        }

pub of-tail : (n : ℕ) (x : ℕ × Waiting) (xs : List (ℕ × Waiting)) → of n (x ∷ xs) ≡ [] → of n xs ≡ []
of-tail n x xs none = go (x.0 == n) refl
  where
    no_cons : (ys : List (ℕ × Waiting)) → x ∷ ys ≡ [] → ⊥
    no_cons ys e = absurd (cc)

    go : (b : Bool) → (x.0 == n) ≡ b → of n xs ≡ []
    go true h = absurd (no_cons (of n xs) (sym (ap (λ b. cond b (x ∷ of n xs) (of n xs)) h) ∙ none))
    go false h = sym (ap (λ b. cond b (x ∷ of n xs) (of n xs)) h) ∙ none
