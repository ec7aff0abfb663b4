-- How the chains of the held opens change: where an open is put behind the others, and where the first one of a question goes out.
use Rattle.std.proofs.Common.{◌≡◌, ◌≢◌, ℕ, ◌+◌, ◌<◌, ◌≤◌, ◌==◌, length, add-zero, Bool, true, false, List, [], ◌∷◌, ◌++◌, Option, Some, None, is_some, IsSome, IfSome, IfNone, drop, get_or, cond, refl, sym, ap, subst, ◌∙◌, inl, inr, arith}
use Rattle.std.specs.List.{AllByRecursion}
use Rattle.std.specs.Map.{keys_of}
use Rattle.std.specs.List.Sorted.{IsStrictlySortedBy}
use Rattle.std.specs.Ordering.{nat_cmp}
use Rattle.std.specs.BTreeMap.{is_at}
use Rattle.std.proofs.lemmas.Map.Made.{lookup-map_values, keys_of-map_values}
use Rattle.std.specs.Option.{option_or, option_map}
use Rattle.std.proofs.lemmas.Bool.{cases_eq, eqb-true, eq-eqb}
use Rattle.std.proofs.lemmas.Bool.Decides.{nat_tests}
use Rattle.av_context.specs.Contexts.{at, with, without, PutsAt}
use Rattle.av_filter_table.specs.declared.asked.Asked.{Asked}
use Rattle.av_filter_table.specs.declared.waits.Waits.{Waits}
use Rattle.av_pend.specs.Waiting.{Waiting}
use Rattle.av_numbered.specs.Numbered.{IsAscending}
use Rattle.av_filter_table.specs.Chains.{Questions, Opens, IsChain, AreChained, longer, shorter, last_after, essence, essences, waits_for, first_of, last_of, count_of, AreLinked, plain, plains, of, others}
use Rattle.av_filter_table.specs.FilterTable.{AreNumbered}
use Rattle.av_numbered.proofs.MapLemmas.{puts-ascends, keys-end, keys-with, row_found, with-end, same_map, if_some, if_some_at, none_some, some_same, not_there, is_there, at-same, at-apart, at-none, head-above, tail-ascends, with-here, with-above, without-here, without-apart, three, AreAbove, above-less}

-- the question of an open is this one, or another
pub test-same : (a n : ℕ) → (a == n) ≡ true → a ≡ n
test-same a n h = eqb-true a n h

pub test-apart : (a n : ℕ) → (a == n) ≡ false → a ≢ n
test-apart a n h same = let t = eq-eqb a n same in absurd (cc)

pub apart-test : (a n : ℕ) → a ≢ n → (a == n) ≡ false
apart-test a n apart = grind (arith, nat_tests)

pub or-none : {X : Type 0} (o : Option X) → option_or o None ≡ o
or-none None = refl
or-none (Some x) = refl

or-assoc : {X : Type 0} (a b c : Option X) → option_or (option_or a b) c ≡ option_or a (option_or b c)
or-assoc None b c = refl
or-assoc (Some x) b c = refl

pub or-some : {X : Type 0} (a b : Option X) → IsSome a → option_or a b ≡ a
or-some None b some = absurd (cc)
or-some (Some x) b some = refl

-- an open behind the others
pub first-end : (n : ℕ) (p : Opens) (e : ℕ × (Waits × Waiting)) → first_of n (p ++ e ∷ []) ≡ option_or (first_of n p) (cond (waits_for n e) (Some e.0) None)
first-end n [] e = refl
first-end n (d ∷ p) e = go (waits_for n d) refl (first-end n p e)
  where
    go : (b : Bool) → waits_for n d ≡ b → first_of n (p ++ e ∷ []) ≡ option_or (first_of n p) (cond (waits_for n e) (Some e.0) None) → first_of n (d ∷ (p ++ e ∷ [])) ≡ option_or (first_of n (d ∷ p)) (cond (waits_for n e) (Some e.0) None)
    go true h rest = rw (h) refl
    go false h rest = rw (h) rest

pub last-end : (n : ℕ) (p : Opens) (e : ℕ × (Waits × Waiting)) → last_of n (p ++ e ∷ []) ≡ option_or (cond (waits_for n e) (Some e.0) None) (last_of n p)
last-end n [] e = sym (or-none (cond (waits_for n e) (Some e.0) None))
last-end n (d ∷ p) e =
    ap (λ o. option_or o (cond (waits_for n d) (Some d.0) None)) (last-end n p e)
    ∙ or-assoc (cond (waits_for n e) (Some e.0) None) (last_of n p) (cond (waits_for n d) (Some d.0) None)

pub count-end : (n : ℕ) (p : Opens) (e : ℕ × (Waits × Waiting)) → count_of n (p ++ e ∷ []) ≡ count_of n p + cond (waits_for n e) 1 0
count-end n [] e = go (waits_for n e) refl
  where
    go : (b : Bool) → waits_for n e ≡ b → count_of n (e ∷ []) ≡ 0 + cond (waits_for n e) 1 0
    go true h = rw (h) refl
    go false h = rw (h) refl
count-end n (d ∷ p) e = go (waits_for n d) refl (count-end n p e)
  where
    go : (b : Bool) → waits_for n d ≡ b → count_of n (p ++ e ∷ []) ≡ count_of n p + cond (waits_for n e) 1 0 → count_of n (d ∷ (p ++ e ∷ [])) ≡ count_of n (d ∷ p) + cond (waits_for n e) 1 0
    go true h rest = rw (h) (omega arith)
    go false h rest = rw (h) rest

pub plains-end : (p : Opens) (e : ℕ × (Waits × Waiting)) → plains (p ++ e ∷ []) ≡ plains p ++ plain e ∷ []
plains-end [] e = refl
plains-end (d ∷ p) e = ap (λ xs. plain d ∷ xs) (plains-end p e)

-- a question with no first open has none
pub record HasNone (n : ℕ) (p : Opens) : Type 0 where
  pub last : last_of n p ≡ None
  pub count : count_of n p ≡ 0
  pub of_it : of n (plains p) ≡ []
  pub of_others : others n (plains p) ≡ plains p

pub has_none : (n : ℕ) (p : Opens) → first_of n p ≡ None → HasNone n p
has_none n [] none = record { last = refl; count = refl; of_it = refl; of_others = refl }
has_none n (d ∷ p) none = go (waits_for n d) refl (has_none n p)
  where
    go : (b : Bool) → waits_for n d ≡ b → (first_of n p ≡ None → HasNone n p) → HasNone n (d ∷ p)
    go true h rest = none_some (sym none ∙ ap (λ b. cond b (Some d.0) (first_of n p)) h)
    go false h rest =
        let tail = rest (sym (ap (λ b. cond b (Some d.0) (first_of n p)) h) ∙ none) in
        record {
          last = rw (h, tail.last) refl;
          count = rw (h) tail.count;
          of_it = rw (h) tail.of_it;
          of_others = rw (h) (ap (λ xs. plain d ∷ xs) tail.of_others);
        }

-- one with a first has a last
pub some-last : (n : ℕ) (p : Opens) → IsSome (first_of n p) → IsSome (last_of n p)
some-last n [] some = absurd (cc)
some-last n (d ∷ p) some = go (waits_for n d) refl (some-last n p)
  where
    some_or : (a b : Option ℕ) → IsSome b → IsSome (option_or a b)
    some_or None b there = there
    some_or (Some x) b there = refl

    go : (b : Bool) → waits_for n d ≡ b → (IsSome (first_of n p) → IsSome (last_of n p)) → IsSome (last_of n (d ∷ p))
    go true h rest = some_or (last_of n p) (cond (waits_for n d) (Some d.0) None) (ap (λ b. is_some (cond b (Some d.0) None)) h)
    go false h rest = subst (λ b. IsSome (option_or (last_of n p) (cond b (Some d.0) None))) (sym h) (subst (λ o. IsSome o) (sym (or-none (last_of n p))) (rest (subst (λ b. IsSome (cond b (Some d.0) (first_of n p))) h some)))

pub some-first : (n : ℕ) (p : Opens) (k : ℕ) → last_of n p ≡ Some k → IsSome (first_of n p)
some-first n p k last = go (first_of n p) refl
  where
    go : (o : Option ℕ) → first_of n p ≡ o → IsSome (first_of n p)
    go None none = none_some (sym (has_none n p none).last ∙ last)
    go (Some x) some = is_there (first_of n p) x some

-- the first open of a question goes out
pub record Pops (n k : ℕ) (p : Opens) : Type 0 where
  pub row : Waits
  pub value : Waiting
  pub found : at p k ≡ Some (row, value)
  pub of_n : row.question ≡ n
  pub next : row.next ≡ first_of n (without p k)
  pub linked : AreLinked (without p k)
  pub of_it : of n (plains p) ≡ (n, value) ∷ of n (plains (without p k))
  pub of_others : others n (plains (without p k)) ≡ others n (plains p)
  pub firsts : (m : ℕ) → m ≢ n → first_of m (without p k) ≡ first_of m p
  pub lasts : (m : ℕ) → m ≢ n → last_of m (without p k) ≡ last_of m p
  pub counts : (m : ℕ) → m ≢ n → count_of m (without p k) ≡ count_of m p
  pub last : IsSome (first_of n (without p k)) → last_of n (without p k) ≡ last_of n p
  pub count : count_of n p ≡ count_of n (without p k) + 1

pops-behind : (n k : ℕ) (d : ℕ × (Waits × Waiting)) (p : Opens) → IsAscending (d ∷ p) → AreLinked (d ∷ p) → waits_for n d ≡ false → Pops n k p → Pops n k (d ∷ p)
pops-behind n k d p up linked h tail =
    let apart : k ≢ d.0 = λ e. none_some (sym (at-none p d.0 (head-above d p up)) ∙ (ap (at p) (sym e) ∙ tail.found)) in
    let gone : without (d ∷ p) k ≡ d ∷ without p k = without-apart p d.0 k d.1 apart in
    record {
      row = tail.row;
      value = tail.value;
      found = at-apart p d.0 k d.1 apart ∙ tail.found;
      of_n = tail.of_n;
      next = tail.next ∙ sym (ap (first_of n) gone ∙ ap (λ b. cond b (Some d.0) (first_of n (without p k))) h);
      linked = subst AreLinked (sym gone) (linked.0 ∙ sym (tail.firsts d.1.0.question (test-apart d.1.0.question n h)), tail.linked);
      of_it = rw (gone, h) tail.of_it;
      of_others = rw (gone, h) (ap (λ xs. plain d ∷ xs) tail.of_others);
      firsts = λ m differs. ap (first_of m) gone ∙ ap (cond (waits_for m d) (Some d.0)) (tail.firsts m differs);
      lasts = λ m differs. ap (last_of m) gone ∙ ap (λ o. option_or o (cond (waits_for m d) (Some d.0) None)) (tail.lasts m differs);
      counts = λ m differs. ap (count_of m) gone ∙ ap (λ c. cond (waits_for m d) (c + 1) c) (tail.counts m differs);
      last = λ some. ap (last_of n) gone ∙ ap (λ o. option_or o (cond (waits_for n d) (Some d.0) None)) (tail.last (subst (λ b. IsSome (cond b (Some d.0) (first_of n (without p k)))) h (subst (λ m. IsSome (first_of n m)) gone some)));
      count = rw (gone, h) tail.count;
    }

pub pops : (n k : ℕ) (p : Opens) → IsAscending p → AreLinked p → first_of n p ≡ Some k → Pops n k p
pops n k [] up linked first = none_some first
pops n k (d ∷ p) up linked first = go (waits_for n d) refl (pops n k p (tail-ascends d p up) linked.1)
  where
    other : (m : ℕ) → m ≢ n → waits_for n d ≡ true → waits_for m d ≡ false
    other m apart h = apart-test d.1.0.question m (λ e. apart (sym e ∙ test-same d.1.0.question n h))

    go : (b : Bool) → waits_for n d ≡ b → (first_of n p ≡ Some k → Pops n k p) → Pops n k (d ∷ p)
    go true h rest =
        let here : k ≡ d.0 = sym (some_same d.0 k (sym (ap (λ b. cond b (Some d.0) (first_of n p)) h) ∙ first)) in
        let gone : without (d ∷ p) k ≡ p = without-here p d.0 k d.1 here in
        let same = test-same d.1.0.question n h in
        record {
          row = d.1.0;
          value = d.1.1;
          found = ap (at (d ∷ p)) here ∙ at-same p d.0 d.1;
          of_n = same;
          next = linked.0 ∙ (ap (λ m. first_of m p) same ∙ ap (first_of n) (sym gone));
          linked = subst AreLinked (sym gone) linked.1;
          of_it = rw (h, gone) (ap (λ m. (m, d.1.1) ∷ of n (plains p)) same);
          of_others = rw (h, gone) refl;
          firsts = λ m apart. rw (gone, other m apart h) refl;
          lasts = λ m apart. rw (gone, other m apart h) (sym (or-none (last_of m p)));
          counts = λ m apart. rw (gone, other m apart h) refl;
          last = λ some. rw (gone) (sym (or-some (last_of n p) (cond (waits_for n d) (Some d.0) None) (some-last n p (subst (λ m. IsSome (first_of n m)) gone some))));
          count = rw (h, gone) refl;
        }
    go false h rest = pops-behind n k d p up linked h (rest (sym (ap (λ b. cond b (Some d.0) (first_of n p)) h) ∙ first))

-- a map whose numbers are above k has what it has above k
pub above-there : {X : Type 0} (m : List (ℕ × X)) (k j : ℕ) → AreAbove k m → IsSome (at m j) → k < j
above-there m k j above some = elim (three k j) [
  | inl below ↦ below
  | inr rest ↦ elim rest [
    | inl same ↦ not_there (at m j) (ap (at m) (sym same) ∙ at-none m k above) some
    | inr past ↦ not_there (at m j) (at-none m j (above-less j k m past above)) some
  ]
]

pub at-append : {X : Type 0} (m rest : List (ℕ × X)) (k : ℕ) (x : X) → at m k ≡ Some x → at (m ++ rest) k ≡ Some x
at-append [] rest k x found = none_some found
at-append (d ∷ m) rest k x found = elim (cases_eq k d.0) [
  | inl same ↦ ap (at (d ∷ (m ++ rest))) same ∙ (at-same (m ++ rest) d.0 d.1 ∙ (sym (at-same m d.0 d.1) ∙ (ap (at (d ∷ m)) (sym same) ∙ found)))
  | inr apart ↦ at-apart (m ++ rest) d.0 k d.1 apart ∙ at-append m rest k x (sym (at-apart m d.0 k d.1 apart) ∙ found)
]

-- the last open of a question
pub record Last (n k : ℕ) (p : Opens) : Type 0 where
  pub row : Waits
  pub value : Waiting
  pub found : at p k ≡ Some (row, value)
  pub of_n : row.question ≡ n

pub last_there : (n k : ℕ) (p : Opens) → IsAscending p → last_of n p ≡ Some k → Last n k p
last_there n k [] up last = none_some last
last_there n k (d ∷ p) up last = go (last_of n p) refl (last_there n k p (tail-ascends d p up)) (waits_for n d) refl
  where
    go : (o : Option ℕ) → last_of n p ≡ o → (last_of n p ≡ Some k → Last n k p) → (b : Bool) → waits_for n d ≡ b → Last n k (d ∷ p)
    go None none rest true h =
        let here : d.0 ≡ k = some_same d.0 k (sym (ap (λ o. option_or o (cond (waits_for n d) (Some d.0) None)) none ∙ ap (λ b. cond b (Some d.0) None) h) ∙ last) in
        record { row = d.1.0; value = d.1.1; found = ap (at (d ∷ p)) (sym here) ∙ at-same p d.0 d.1; of_n = test-same d.1.0.question n h }
    go None none rest false h = none_some (sym (ap (λ o. option_or o (cond (waits_for n d) (Some d.0) None)) none ∙ ap (λ b. cond b (Some d.0) None) h) ∙ last)
    go (Some x) some rest b h =
        let tail = rest (some ∙ (sym (ap (λ o. option_or o (cond (waits_for n d) (Some d.0) None)) some) ∙ last)) in
        let apart : k ≢ d.0 = λ e. none_some (sym (at-none p d.0 (head-above d p up)) ∙ (ap (at p) (sym e) ∙ tail.found)) in
        record { row = tail.row; value = tail.value; found = at-apart p d.0 k d.1 apart ∙ tail.found; of_n = tail.of_n }

-- another next changes nothing else
pub record SameNext (p p' : Opens) : Type 0 where
  pub firsts : (m : ℕ) → first_of m p' ≡ first_of m p
  pub lasts : (m : ℕ) → last_of m p' ≡ last_of m p
  pub counts : (m : ℕ) → count_of m p' ≡ count_of m p
  pub plains_same : plains p' ≡ plains p

pub same_next : (p : Opens) (k : ℕ) (row row' : Waits) (v : Waiting) → IsAscending p → at p k ≡ Some (row, v) → row'.question ≡ row.question → SameNext p (with p k (row', v))
same_next [] k row row' v up found same = none_some found
same_next (d ∷ p) k row row' v up found same = elim (cases_eq k d.0) [
  | inl here ↦
      let is : d.1 ≡ (row, v) = some_same d.1 (row, v) (sym (at-same p d.0 d.1) ∙ (ap (at (d ∷ p)) (sym here) ∙ found)) in
      let put : with (d ∷ p) k (row', v) ≡ (d.0, (row', v)) ∷ p = with-here p d.0 k d.1 (row', v) here in
      let question : row'.question ≡ d.1.0.question = same ∙ sym (ap (λ x. x.0.question) is) in
      record {
        firsts = λ m. ap (first_of m) put ∙ ap (λ q. cond (q == m) (Some d.0) (first_of m p)) question;
        lasts = λ m. ap (last_of m) put ∙ ap (λ q. option_or (last_of m p) (cond (q == m) (Some d.0) None)) question;
        counts = λ m. ap (count_of m) put ∙ ap (λ q. cond (q == m) (count_of m p + 1) (count_of m p)) question;
        plains_same = ap plains put ∙ (λ i. (question i, (sym (ap (λ x. x.1) is)) i) ∷ plains p);
      }
  | inr apart ↦
      let below : d.0 < k = above-there p d.0 k (head-above d p up) (is_there (at p k) (row, v) (sym (at-apart p d.0 k d.1 apart) ∙ found)) in
      let put : with (d ∷ p) k (row', v) ≡ d ∷ with p k (row', v) = with-above p d.0 k d.1 (row', v) below in
      let tail = same_next p k row row' v (tail-ascends d p up) (sym (at-apart p d.0 k d.1 apart) ∙ found) same in
      record {
        firsts = λ m. ap (first_of m) put ∙ ap (cond (waits_for m d) (Some d.0)) (tail.firsts m);
        lasts = λ m. ap (last_of m) put ∙ ap (λ o. option_or o (cond (waits_for m d) (Some d.0) None)) (tail.lasts m);
        counts = λ m. ap (count_of m) put ∙ ap (λ c. cond (waits_for m d) (c + 1) c) (tail.counts m);
        plains_same = ap plains put ∙ ap (λ xs. plain d ∷ xs) tail.plains_same;
      }
]

-- the links, with an open behind the others
linked-none : (n : ℕ) (p : Opens) (e : ℕ × (Waits × Waiting)) → AreLinked p → first_of n p ≡ None → e.1.0.question ≡ n → e.1.0.next ≡ None → AreLinked (p ++ e ∷ [])
linked-none n [] e linked none of_n next = (next, tt)
linked-none n (d ∷ p) e linked none of_n next = go (waits_for n d) refl (linked-none n p e linked.1)
  where
    go : (b : Bool) → waits_for n d ≡ b → (first_of n p ≡ None → e.1.0.question ≡ n → e.1.0.next ≡ None → AreLinked (p ++ e ∷ [])) → AreLinked (d ∷ (p ++ e ∷ []))
    go true h rest = none_some (sym none ∙ ap (λ b. cond b (Some d.0) (first_of n p)) h)
    go false h rest =
        let apart : waits_for d.1.0.question e ≡ false = apart-test e.1.0.question d.1.0.question (λ s. test-apart d.1.0.question n h (sym s ∙ of_n)) in (
          linked.0 ∙ sym (first-end d.1.0.question p e ∙ (ap (λ b. option_or (first_of d.1.0.question p) (cond b (Some e.0) None)) apart ∙ or-none (first_of d.1.0.question p))),
          rest (sym (ap (λ b. cond b (Some d.0) (first_of n p)) h) ∙ none) of_n next,
        )

pub linked-append_none : (n : ℕ) (p : Opens) (e : ℕ × (Waits × Waiting)) → AreLinked p → last_of n p ≡ None → e.1.0.question ≡ n → e.1.0.next ≡ None → AreLinked (p ++ e ∷ [])
linked-append_none n p e linked none = linked-none n p e linked (go (first_of n p) refl)
  where
    go : (o : Option ℕ) → first_of n p ≡ o → first_of n p ≡ None
    go None is = is
    go (Some x) is = not_there (last_of n p) none (some-last n p (is_there (first_of n p) x is))

pub first-none : (n : ℕ) (p : Opens) → last_of n p ≡ None → first_of n p ≡ None
first-none n p none = go (first_of n p) refl
  where
    go : (o : Option ℕ) → first_of n p ≡ o → first_of n p ≡ None
    go None is = is
    go (Some x) is = not_there (last_of n p) none (some-last n p (is_there (first_of n p) x is))

pub linked-append : (n k : ℕ) (p : Opens) (e : ℕ × (Waits × Waiting)) (row : Waits) (v : Waiting) → IsAscending (p ++ e ∷ []) → IsAscending p → AreLinked p → last_of n p ≡ Some k → at p k ≡ Some (row, v)
    → e.1.0.question ≡ n → e.1.0.next ≡ None → AreLinked (with (p ++ e ∷ []) k (record row { next = Some e.0 }, v))
linked-append n k [] e row v up' up linked last found of_n next = none_some last
linked-append n k (d ∷ p) e row v up' up linked last found of_n next = go (last_of n p) refl (linked-append n k p e row v (tail-ascends d (p ++ e ∷ []) up') (tail-ascends d p up) linked.1)
  where
    x : Waits × Waiting
    x = (record row { next = Some e.0 }, v)

    go : (o : Option ℕ) → last_of n p ≡ o
        → (last_of n p ≡ Some k → at p k ≡ Some (row, v) → e.1.0.question ≡ n → e.1.0.next ≡ None → AreLinked (with (p ++ e ∷ []) k (record row { next = Some e.0 }, v)))
        → AreLinked (with (d ∷ (p ++ e ∷ [])) k (record row { next = Some e.0 }, v))
    go None none rest = by_test (waits_for n d) refl
      where
        by_test : (b : Bool) → waits_for n d ≡ b → AreLinked (with (d ∷ (p ++ e ∷ [])) k (record row { next = Some e.0 }, v))
        by_test false h = none_some (sym (ap (λ o. option_or o (cond (waits_for n d) (Some d.0) None)) none ∙ ap (λ b. cond b (Some d.0) None) h) ∙ last)
        by_test true h =
            let here : d.0 ≡ k = some_same d.0 k (sym (ap (λ o. option_or o (cond (waits_for n d) (Some d.0) None)) none ∙ ap (λ b. cond b (Some d.0) None) h) ∙ last) in
            let is : d.1 ≡ (row, v) = some_same d.1 (row, v) (sym (at-same p d.0 d.1) ∙ (ap (at (d ∷ p)) here ∙ found)) in
            let question : row.question ≡ n = sym (ap (λ y. y.0.question) is) ∙ test-same d.1.0.question n h in
            let nothing = first-none n p none in
            let mine : waits_for n e ≡ true = eq-eqb e.1.0.question n of_n in
            subst AreLinked (sym (with-here (p ++ e ∷ []) d.0 k d.1 (record row { next = Some e.0 }, v) (sym here))) (
              sym (ap (λ q. first_of q (p ++ e ∷ [])) question ∙ (first-end n p e ∙ (ap (λ o. option_or o (cond (waits_for n e) (Some e.0) None)) nothing ∙ ap (λ b. cond b (Some e.0) None) mine))),
              linked-none n p e linked.1 nothing of_n next,
            )
    go (Some y) some rest =
        let last' : last_of n p ≡ Some k = some ∙ (sym (ap (λ o. option_or o (cond (waits_for n d) (Some d.0) None)) some) ∙ last) in
        let there = last_there n k p (tail-ascends d p up) last' in
        let apart : k ≢ d.0 = λ s. none_some (sym (at-none p d.0 (head-above d p up)) ∙ (ap (at p) (sym s) ∙ there.found)) in
        let found' : at p k ≡ Some (row, v) = sym (at-apart p d.0 k d.1 apart) ∙ found in
        let below : d.0 < k = above-there p d.0 k (head-above d p up) (is_there (at p k) (row, v) found') in
        let at_end : at (p ++ e ∷ []) k ≡ Some (row, v) = at-append p (e ∷ []) k (row, v) found' in
        let same = same_next (p ++ e ∷ []) k row (record row { next = Some e.0 }) v (tail-ascends d (p ++ e ∷ []) up') at_end refl in
        subst AreLinked (sym (with-above (p ++ e ∷ []) d.0 k d.1 (record row { next = Some e.0 }, v) below))
        (linked.0 ∙ sym (same.firsts d.1.0.question ∙ (first-end d.1.0.question p e ∙ by_question (waits_for d.1.0.question e) refl last')), rest last' found' of_n next)
      where
        by_question : (b : Bool) → waits_for d.1.0.question e ≡ b → last_of n p ≡ Some k → option_or (first_of d.1.0.question p) (cond (waits_for d.1.0.question e) (Some e.0) None) ≡ first_of d.1.0.question p
        by_question false h last' = ap (λ b. option_or (first_of d.1.0.question p) (cond b (Some e.0) None)) h ∙ or-none (first_of d.1.0.question p)
        by_question true h last' =
            let same : n ≡ d.1.0.question = sym of_n ∙ test-same e.1.0.question d.1.0.question h in
            or-some (first_of d.1.0.question p) (cond (waits_for d.1.0.question e) (Some e.0) None) (subst (λ q. IsSome (first_of q p)) same (some-first n p k last'))

-- an open was put behind the others, and behind those of its question
pub record Appends (n k : ℕ) (w : Waiting) (p p' : Opens) : Type 0 where
  pub linked : AreLinked p'
  pub plains_are : plains p' ≡ plains p ++ (n, w) ∷ []
  pub firsts : (m : ℕ) → first_of m p' ≡ option_or (first_of m p) (cond (n == m) (Some k) None)
  pub lasts : (m : ℕ) → last_of m p' ≡ option_or (cond (n == m) (Some k) None) (last_of m p)
  pub counts : (m : ℕ) → count_of m p' ≡ count_of m p + cond (n == m) 1 0

abbrev pub new_entry : ℕ → ℕ → Waiting → ℕ × (Waits × Waiting)
new_entry n k w = (k, (record { question = n; next = None }, w))

pub appends-none : (n k : ℕ) (w : Waiting) (p : Opens) → AreLinked p → last_of n p ≡ None → Appends n k w p (p ++ new_entry n k w ∷ [])
appends-none n k w p linked none = record {
  linked = linked-append_none n p (new_entry n k w) linked none refl refl;
  plains_are = plains-end p (new_entry n k w);
  firsts = λ m. first-end m p (new_entry n k w);
  lasts = λ m. last-end m p (new_entry n k w);
  counts = λ m. count-end m p (new_entry n k w);
}

pub appends-some : (n k l : ℕ) (w : Waiting) (p : Opens) (row : Waits) (v : Waiting) → IsAscending (p ++ new_entry n k w ∷ []) → IsAscending p → AreLinked p → last_of n p ≡ Some l → at p l ≡ Some (row, v)
    → Appends n k w p (with (p ++ new_entry n k w ∷ []) l (record row { next = Some k }, v))
appends-some n k l w p row v up' up linked last found =
    let same = same_next (p ++ new_entry n k w ∷ []) l row (record row { next = Some k }) v up' (at-append p (new_entry n k w ∷ []) l (row, v) found) refl in
    record {
      linked = linked-append n l p (new_entry n k w) row v up' up linked last found refl refl;
      plains_are = same.plains_same ∙ plains-end p (new_entry n k w);
      firsts = λ m. same.firsts m ∙ first-end m p (new_entry n k w);
      lasts = λ m. same.lasts m ∙ last-end m p (new_entry n k w);
      counts = λ m. same.counts m ∙ count-end m p (new_entry n k w);
    }

pub same-test : (n : ℕ) → (n == n) ≡ true
same-test n = eq-eqb n n refl

pub chained-appends : (n k : ℕ) (w : Waiting) (q q' : Questions) (p p' : Opens) (x : Asked) (key : ℕ) → AreChained q p → at q n ≡ Some (x, key) → Appends n k w p p' → PutsAt q q' n (Some (longer x k, key)) → AreChained q' p'
chained-appends n k w q q' p p' x key chained found appends puts = record {
  linked = appends.linked;
  ends = λ m. if_some (λ y. IsChain y.0 m p') (at q' m) (λ y at_m. elim (cases_eq m n) [
    | inl same ↦ subst (λ j. IsChain y.0 j p') (sym same) (subst (λ z. IsChain z.0 n p') (some_same (longer x k, key) y (sym puts.here ∙ (ap (at q') (sym same) ∙ at_m))) here)
    | inr apart ↦
        let old = if_some_at (λ z. IsChain z.0 m p) (at q m) y (chained.ends m) (sym (puts.others m apart) ∙ at_m) in
        let test = apart-test n m (λ s. apart (sym s)) in
        record {
          first = old.first ∙ sym (appends.firsts m ∙ (ap (λ b. option_or (first_of m p) (cond b (Some k) None)) test ∙ or-none (first_of m p)));
          last = old.last ∙ sym (appends.lasts m ∙ ap (λ b. option_or (cond b (Some k) None) (last_of m p)) test);
          opens = old.opens ∙ sym (appends.counts m ∙ (ap (λ b. count_of m p + cond b 1 0) test ∙ add-zero (count_of m p)));
        }
  ]);
}
  where
    here : IsChain (longer x k) n p'
    here =
        let old = if_some_at (λ z. IsChain z.0 n p) (at q n) (x, key) (chained.ends n) found in
        record {
          first = ap (λ o. option_or o (Some k)) old.first ∙ sym (appends.firsts n ∙ ap (λ b. option_or (first_of n p) (cond b (Some k) None)) (same-test n));
          last = sym (appends.lasts n ∙ ap (λ b. option_or (cond b (Some k) None) (last_of n p)) (same-test n));
          opens = ap (λ c. c + 1) old.opens ∙ sym (appends.counts n ∙ ap (λ b. count_of n p + cond b 1 0) (same-test n));
        }

pub chained-pops : (n k : ℕ) (q q' : Questions) (p : Opens) (x : Asked) (key : ℕ) (pop : Pops n k p) → AreChained q p → at q n ≡ Some (x, key) → PutsAt q q' n (Some (shorter x pop.row.next, key)) → AreChained q' (without p k)
chained-pops n k q q' p x key pop chained found puts = record {
  linked = pop.linked;
  ends = λ m. if_some (λ y. IsChain y.0 m (without p k)) (at q' m) (λ y at_m. elim (cases_eq m n) [
    | inl same ↦ subst (λ j. IsChain y.0 j (without p k)) (sym same) (subst (λ z. IsChain z.0 n (without p k)) (some_same (shorter x pop.row.next, key) y (sym puts.here ∙ (ap (at q') (sym same) ∙ at_m))) here)
    | inr apart ↦
        let old = if_some_at (λ z. IsChain z.0 m p) (at q m) y (chained.ends m) (sym (puts.others m apart) ∙ at_m) in
        record {
          first = old.first ∙ sym (pop.firsts m apart);
          last = old.last ∙ sym (pop.lasts m apart);
          opens = old.opens ∙ sym (pop.counts m apart);
        }
  ]);
}
  where
    old : IsChain x n p
    old = if_some_at (λ z. IsChain z.0 n p) (at q n) (x, key) (chained.ends n) found

    last : (o : Option ℕ) → pop.row.next ≡ o → last_after o x.last ≡ last_of n (without p k)
    last None none = sym (has_none n (without p k) (sym pop.next ∙ none)).last
    last (Some j) some = old.last ∙ sym (pop.last (is_there (first_of n (without p k)) j (sym pop.next ∙ some)))

    here : IsChain (shorter x pop.row.next) n (without p k)
    here = record {
      first = pop.next;
      last = last pop.row.next refl;
      opens = let count = pop.count in let before = old.opens in omega arith;
    }

-- a question with another chain is of the same content
pub essences-set : (q q' : Questions) (n : ℕ) (x x' : Asked) (key : ℕ) → IsAscending q → IsAscending q' → at q n ≡ Some (x, key) → PutsAt q q' n (Some (x', key)) → x'.stream ≡ x.stream → x'.generation ≡ x.generation → x'.port ≡ x.port → essences q' ≡ essences q
essences-set q q' n x x' key up up' found puts stream generation port =
    same_map (essences q') (essences q) (subst (IsStrictlySortedBy nat_cmp) (sym (keys_of-map_values essence q')) up') (subst (IsStrictlySortedBy nat_cmp) (sym (keys_of-map_values essence q)) up)
    (λ m. lookup-map_values essence (is_at (nat_cmp m)) q' ∙ (elim (cases_eq m n) [
      | inl same ↦ ap (λ j. option_map essence (at q' j)) same ∙ (ap (option_map essence) puts.here ∙ ((λ i. Some (stream i, ((generation i, port i), key))) ∙ sym (ap (λ j. option_map essence (at q j)) same ∙ ap (option_map essence) found)))
      | inr apart ↦ ap (option_map essence) (puts.others m apart)
    ] ∙ sym (lookup-map_values essence (is_at (nat_cmp m)) q)))

pub count-le : (n : ℕ) (p : Opens) → count_of n p ≤ length p
count-le n [] = omega arith
count-le n (d ∷ p) = go (waits_for n d) refl (count-le n p)
  where
    go : (b : Bool) → waits_for n d ≡ b → count_of n p ≤ length p → count_of n (d ∷ p) ≤ length (d ∷ p)
    go true h rest = rw (h) (omega arith)
    go false h rest = rw (h) (omega arith)

-- what `take_first` does
pub record Taken (n : ℕ) (held : Waiting) (q q' : Questions) (p p' : Opens) : Type 0 where
  pub some : of n (plains p) ≡ (n, held) ∷ of n (plains p')
  pub of_others : others n (plains p') ≡ others n (plains p)
  pub chained : AreChained q' p'
  pub same : essences q' ≡ essences q

pub taken : (n first : ℕ) (q q' : Questions) (p p' : Opens) (x : Asked) (row : Waits) (held : Waiting) → IsAscending q → IsAscending p → AreChained q p
    → Some x ≡ option_map (λ y. y.0) (at q n) → x.first ≡ Some first → Some (row, held) ≡ at p first → p' ≡ without p first
    → PutsAt q q' n (option_map (λ y. (shorter x row.next, y.1)) (at q n)) → Taken n held q q' p p'
taken n first q q' p p' x row held up up' chained is_row is_first is_held gone puts =
    let found = row_found (at q n) x is_row in
    let chain = if_some_at (λ z. IsChain z.0 n p) (at q n) (x, found.0) (chained.ends n) found.1 in
    let pop = pops n first p up' chained.linked (sym chain.first ∙ is_first) in
    let pair : (row, held) ≡ (pop.row, pop.value) = some_same (row, held) (pop.row, pop.value) (is_held ∙ pop.found) in
    let put : PutsAt q q' n (Some (shorter x pop.row.next, found.0)) =
    subst (PutsAt q q' n) (ap (option_map (λ y. (shorter x row.next, y.1))) found.1 ∙ ap (λ z. Some (shorter x z.0.next, found.0)) pair) puts in
    record {
      some = pop.of_it ∙ (λ i. (n, (sym (ap (λ z. z.1) pair)) i) ∷ of n (plains ((sym gone) i)));
      of_others = ap (λ m. others n (plains m)) gone ∙ pop.of_others;
      chained = subst (AreChained q') (sym gone) (chained-pops n first q q' p x found.0 pop chained found.1 put);
      same = essences-set q q' n x (shorter x pop.row.next) found.0 up (puts-ascends q q' n (Some (shorter x pop.row.next, found.0)) put up) found.1 put refl refl refl;
    }

-- what `append` does
pub record Appended (n k : ℕ) (w : Waiting) (q q' : Questions) (p p' : Opens) : Type 0 where
  pub some : plains p' ≡ plains p ++ (n, w) ∷ []
  pub keys : keys_of p' ≡ keys_of p ++ k ∷ []
  pub chained : AreChained q' p'
  pub same : essences q' ≡ essences q

pub appended : (n k : ℕ) (w : Waiting) (q q' : Questions) (p p1 p' : Opens) (x : Asked) → IsAscending q → IsAscending p → AreChained q p → AllByRecursion (λ j. j < k) (keys_of p)
    → Some x ≡ option_map (λ y. y.0) (at q n) → PutsAt p p1 k (Some (record { question = n; next = None }, w))
    → IfNone x.last (p' ≡ p1) → IfSome x.last (λ l. IfSome (at p1 l) (λ y. p' ≡ with p1 l (record y.0 { next = Some k }, y.1)))
    → PutsAt q q' n (option_map (λ y. (longer x k, y.1)) (at q n)) → Appended n k w q q' p p'
appended n k w q q' p p1 p' x up up' chained below is_row put if_none if_last puts = by_last x.last refl
  where
    e : ℕ × (Waits × Waiting)
    e = new_entry n k w

    is_end : p1 ≡ p ++ new_entry n k w ∷ []
    is_end = put.whole ∙ with-end p k (record { question = n; next = None }, w) below

    up_end : IsAscending (p ++ new_entry n k w ∷ [])
    up_end = subst IsAscending is_end (puts-ascends p p1 k (Some (record { question = n; next = None }, w)) put up')

    finish : (p2 : Opens) → p' ≡ p2 → Appends n k w p p2 → keys_of p2 ≡ keys_of p ++ k ∷ [] → Appended n k w q q' p p'
    finish p2 is appends keys =
        let found = row_found (at q n) x is_row in
        let set : PutsAt q q' n (Some (longer x k, found.0)) = subst (PutsAt q q' n) (ap (option_map (λ y. (longer x k, y.1))) found.1) puts in
        record {
          some = ap plains is ∙ appends.plains_are;
          keys = ap keys_of is ∙ keys;
          chained = subst (AreChained q') (sym is) (chained-appends n k w q q' p p2 x found.0 chained found.1 appends set);
          same = essences-set q q' n x (longer x k) found.0 up (puts-ascends q q' n (Some (longer x k, found.0)) set up) found.1 set refl refl refl;
        }

    last_is : x.last ≡ last_of n p
    last_is =
        let found = row_found (at q n) x is_row in
        (if_some_at (λ z. IsChain z.0 n p) (at q n) (x, found.0) (chained.ends n) found.1).last

    by_last : (o : Option ℕ) → x.last ≡ o → Appended n k w q q' p p'
    by_last None none =
        finish (p ++ new_entry n k w ∷ []) (subst (λ o. IfNone o (p' ≡ p1)) none if_none ∙ is_end)
        (appends-none n k w p chained.linked (sym last_is ∙ none)) (keys-end p k (record { question = n; next = None }, w))
    by_last (Some l) some =
        let there = last_there n l p up' (sym last_is ∙ some) in
        let at_end : at (p ++ new_entry n k w ∷ []) l ≡ Some (there.row, there.value) = at-append p (new_entry n k w ∷ []) l (there.row, there.value) there.found in
        let set : p' ≡ with p1 l (record there.row { next = Some k }, there.value) =
        if_some_at (λ y. p' ≡ with p1 l (record y.0 { next = Some k }, y.1)) (at p1 l) (there.row, there.value) (subst (λ o. IfSome o (λ l. IfSome (at p1 l) (λ y. p' ≡ with p1 l (record y.0 { next = Some k }, y.1)))) some if_last) (ap (λ m. at m l) is_end ∙ at_end) in
        finish (with (p ++ new_entry n k w ∷ []) l (record there.row { next = Some k }, there.value))
        (set ∙ ap (λ m. with m l (record there.row { next = Some k }, there.value)) is_end)
        (appends-some n k l w p there.row there.value up_end up' chained.linked (sym last_is ∙ some) there.found)
        (keys-with (p ++ new_entry n k w ∷ []) l (record there.row { next = Some k }, there.value) up_end (is_there (at (p ++ new_entry n k w ∷ []) l) (there.row, there.value) at_end) ∙ keys-end p k (record { question = n; next = None }, w))

-- the last open of a question is there, also with one behind all
pub link-there : (n k : ℕ) (w : Waiting) (q : Questions) (p p1 : Opens) (x : Asked) → IsAscending p → AreChained q p → Some x ≡ option_map (λ y. y.0) (at q n) → AllByRecursion (λ j. j < k) (keys_of p)
    → PutsAt p p1 k (Some (record { question = n; next = None }, w)) → IfSome x.last (λ l. IsSome (at p1 l))
link-there n k w q p p1 x up chained is_row below put = if_some (λ l. IsSome (at p1 l)) x.last (λ l is.
    let found = row_found (at q n) x is_row in
    let chain = if_some_at (λ z. IsChain z.0 n p) (at q n) (x, found.0) (chained.ends n) found.1 in
    let there = last_there n l p up (sym chain.last ∙ is) in
    let is_end : p1 ≡ p ++ new_entry n k w ∷ [] = put.whole ∙ with-end p k (record { question = n; next = None }, w) below in
    is_there (at p1 l) (there.row, there.value) (ap (λ m. at m l) is_end ∙ at-append p (new_entry n k w ∷ []) l (there.row, there.value) there.found))

pub few-opens : (n bound : ℕ) (q : Questions) (p : Opens) (x : Asked) → AreChained q p → Some x ≡ option_map (λ y. y.0) (at q n) → length p < bound → x.opens < bound
few-opens n bound q p x chained is_row few =
    let found = row_found (at q n) x is_row in
    let opens : x.opens ≡ count_of n p = (if_some_at (λ z. IsChain z.0 n p) (at q n) (x, found.0) (chained.ends n) found.1).opens in
    let le = count-le n p in
    omega arith

pub first-there : (n k : ℕ) (q : Questions) (p : Opens) (x : Asked) → IsAscending p → AreChained q p → Some x ≡ option_map (λ y. y.0) (at q n) → x.first ≡ Some k → Pops n k p
first-there n k q p x up chained is_row is_first =
    let found = row_found (at q n) x is_row in
    let chain = if_some_at (λ z. IsChain z.0 n p) (at q n) (x, found.0) (chained.ends n) found.1 in
    pops n k p up chained.linked (sym chain.first ∙ is_first)

pub some-opens : (n k : ℕ) (q : Questions) (p : Opens) (x : Asked) → IsAscending p → AreChained q p → Some x ≡ option_map (λ y. y.0) (at q n) → x.first ≡ Some k → 1 ≤ x.opens
some-opens n k q p x up chained is_row is_first =
    let found = row_found (at q n) x is_row in
    let chain = if_some_at (λ z. IsChain z.0 n p) (at q n) (x, found.0) (chained.ends n) found.1 in
    let pop = first-there n k q p x up chained is_row is_first in
    let opens : x.opens ≡ count_of n p = chain.opens in
    let count = pop.count in
    omega arith

pub no-opens : (n : ℕ) (q : Questions) (p : Opens) (x : Asked) → AreChained q p → Some x ≡ option_map (λ y. y.0) (at q n) → x.first ≡ None → of n (plains p) ≡ []
no-opens n q p x chained is_row is_first =
    let found = row_found (at q n) x is_row in
    let chain = if_some_at (λ z. IsChain z.0 n p) (at q n) (x, found.0) (chained.ends n) found.1 in
    (has_none n p (sym chain.first ∙ is_first)).of_it

-- each open stands at its number, also where one is out
pub numbered-without : (p : Opens) (k : ℕ) → AreNumbered p → AreNumbered (without p k)
numbered-without [] k same = refl
numbered-without (d ∷ p) k same = elim (cases_eq k d.0) [
  | inl here ↦ subst AreNumbered (sym (without-here p d.0 k d.1 here)) (ap (drop 1) same)
  | inr apart ↦ subst AreNumbered (sym (without-apart p d.0 k d.1 apart)) (λ i. get_or (same i) 0 0 ∷ numbered-without p k (ap (drop 1) same) i)
]
