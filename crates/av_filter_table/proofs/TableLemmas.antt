-- How the table follows its rows.
use Rattle.std.proofs.Common.{◌-◌, ◌⊎◌, ◌≡◌, ◌≢◌, ℕ, suc, ◌+◌, ◌<◌, ◌≤◌, ◌==◌, ◌&&◌, Bool, true, false, not, List, [], ◌∷◌, ◌++◌, length, Option, Some, None, IsSome, IfSome, IfNone, Result, Ok, Err, OnOk, OnErr, cond, map, find, refl, sym, ap, subst, ◌∙◌, inl, inr, arith}
use Rattle.std.specs.List.{AllByRecursion}
use Rattle.std.specs.Map.{keys_of}
use Rattle.std.specs.Option.{option_map}
use Rattle.std.proofs.lemmas.Bool.{cases_eq, eq-eqb, eqb-true}
use Rattle.std.proofs.lemmas.Map.Made.{keys_of-map_values, lookup-map_values}
use Rattle.std.specs.BTreeMap.{is_at}
use Rattle.std.specs.List.Sorted.{IsStrictlySortedBy}
use Rattle.std.specs.Ordering.{nat_cmp}
use Rattle.std.specs.declared.cmp.Ordering.TheVariants.{Less}
use Rattle.av_base.proofs.KeyLemmas.{same_id-true}
use Rattle.av_base.specs.declared.message_id.MessageId.{MessageId}
use Rattle.av_base.specs.MessageId.{same_id}
use Rattle.av_base.specs.declared.port.Port.{Port}
use Rattle.av_context.specs.Contexts.{at, with, without, set_at, PutsAt}
use Rattle.av_context.specs.declared.context_state.ContextState.{ContextState}
use Rattle.av_context.specs.declared.context_state.ContextState.TheVariants.{Modified, Scanning, Judged}
use Rattle.av_filter_table.specs.StreamContexts.{Known, states, given_back, let_loose, known_again, held_of as held_out}
use Rattle.av_filter_table.specs.declared.asked.Asked.{Asked}
use Rattle.av_filter_table.specs.declared.question.Question.{Question}
use Rattle.av_filter_table.specs.declared.pended.Pended.{Pended}
use Rattle.av_numbered.specs.Numbered.{IsAscending}
use Rattle.av_filter_table.specs.Asking.{ended}
use Rattle.av_filter_table.specs.Chains.{Questions, Opens, IsChain, AreChained, first_of, count_of, plain, plains, of, others, asked_about, essence, essences}
use Rattle.av_filter_table.specs.FilterTable.{id_of, question_in, asked_of, held_of, questions_of, pended_of, number_of, open_numbers, IsRising, AreNumbered, AreScanned, IsUnasked, IsConsistent}
use Rattle.av_filter_table.specs.Table.{Table, question_of, question_at, without_question, waits_for, opens_of, other_opens}
use Rattle.av_filter_table.proofs.ChainLemmas.{has_none, apart-test}
use Rattle.av_numbered.proofs.MapLemmas.{puts_at, put_back, none-past, with-end, keys-end, row_found, if_some, if_some_at, some_same, same_map, puts-ascends, with-ascends, at-with, at-with_other, without-here, without-apart, AreAbove, at-none, below-cmp, none_some, at-same, at-apart, head-above, tail-ascends}
use Rattle.av_pend.specs.Waiting.{Waiting}

-- ids of one boot are told apart by their numbers
pub test-boot : (boot n m : ℕ) → same_id (id_of boot n) (id_of boot m) ≡ (n == m)
test-boot boot n m = ap (λ b. b && (n == m)) (eq-eqb boot boot refl)

pub test-other : (boot n : ℕ) (id : MessageId) → boot ≢ id.boot → same_id (id_of boot n) id ≡ false
test-other boot n id apart = ap (λ b. b && (n == id.seq)) (apart-test boot id.boot apart)

-- the question of a number
pub question-found : (boot n : ℕ) (q : Questions) → IsAscending q → question_at (id_of boot n) (questions_of boot q) ≡ option_map (λ y. asked_of boot (n, essence y)) (at q n)
question-found boot n [] up = refl
question-found boot n (d ∷ q) up = elim (cases_eq n d.0) [
  | inl same ↦
      let test : same_id (id_of boot d.0) (id_of boot n) ≡ true = test-boot boot d.0 n ∙ eq-eqb d.0 n (sym same) in
      ap (λ b. cond b (Some (asked_of boot (d.0, essence d.1))) (find (λ x. same_id x.id (id_of boot n)) (questions_of boot q))) test
      ∙ (ap (λ j. Some (asked_of boot (j, essence d.1))) (sym same)
      ∙ sym (ap (λ j. option_map (λ y. asked_of boot (n, essence y)) (at (d ∷ q) j)) same ∙ ap (option_map (λ y. asked_of boot (n, essence y))) (at-same q d.0 d.1)))
  | inr apart ↦
      let test : same_id (id_of boot d.0) (id_of boot n) ≡ false = test-boot boot d.0 n ∙ apart-test d.0 n (λ e. apart (sym e)) in
      ap (λ b. cond b (Some (asked_of boot (d.0, essence d.1))) (find (λ x. same_id x.id (id_of boot n)) (questions_of boot q))) test
      ∙ (question-found boot n q (tail-ascends d q up) ∙ ap (option_map (λ y. asked_of boot (n, essence y))) (sym (at-apart q d.0 n d.1 apart)))
]

pub question-other : (boot : ℕ) (id : MessageId) (q : Questions) → boot ≢ id.boot → question_at id (questions_of boot q) ≡ None
question-other boot id [] apart = refl
question-other boot id (d ∷ q) apart =
    ap (λ b. cond b (Some (asked_of boot (d.0, essence d.1))) (find (λ x. same_id x.id id) (questions_of boot q))) (test-other boot d.0 id apart) ∙ question-other boot id q apart

pub question-there : (boot n : ℕ) (q : Questions) → IsAscending q → IsSome (question_at (id_of boot n) (questions_of boot q)) → IsSome (at q n)
question-there boot n q up some = by_case (at q n) (subst (λ o. IsSome o) (question-found boot n q up) some)
  where
    by_case : (o : Option (Asked × ℕ)) → IsSome (option_map (λ y. asked_of boot (n, essence y)) o) → IsSome o
    by_case None h = h
    by_case (Some y) h = refl

-- the opens of a question, and the others
pub opens-of : (boot n : ℕ) (xs : List (ℕ × Waiting)) → opens_of (id_of boot n) (map (held_of boot) xs) ≡ map (held_of boot) (of n xs)
opens-of boot n [] = refl
opens-of boot n (x ∷ xs) = go (x.0 == n) refl (opens-of boot n xs)
  where
    go : (b : Bool) → (x.0 == n) ≡ b → opens_of (id_of boot n) (map (held_of boot) xs) ≡ map (held_of boot) (of n xs) → opens_of (id_of boot n) (map (held_of boot) (x ∷ xs)) ≡ map (held_of boot) (of n (x ∷ xs))
    go true h rest = rw (test-boot boot x.0 n ∙ h, h) (ap (λ ys. held_of boot x ∷ ys) rest)
    go false h rest = rw (test-boot boot x.0 n ∙ h, h) rest

pub other-opens : (boot n : ℕ) (xs : List (ℕ × Waiting)) → other_opens (id_of boot n) (map (held_of boot) xs) ≡ map (held_of boot) (others n xs)
other-opens boot n [] = refl
other-opens boot n (x ∷ xs) = go (x.0 == n) refl (other-opens boot n xs)
  where
    go : (b : Bool) → (x.0 == n) ≡ b → other_opens (id_of boot n) (map (held_of boot) xs) ≡ map (held_of boot) (others n xs) → other_opens (id_of boot n) (map (held_of boot) (x ∷ xs)) ≡ map (held_of boot) (others n (x ∷ xs))
    go true h rest = rw (test-boot boot x.0 n ∙ h, h) rest
    go false h rest = rw (test-boot boot x.0 n ∙ h, h) (ap (λ ys. held_of boot x ∷ ys) rest)

-- the same questions, whatever their chains
pub keys-essences : (q q' : Questions) → essences q' ≡ essences q → keys_of q' ≡ keys_of q
keys-essences q q' same = sym (keys_of-map_values essence q') ∙ (ap keys_of same ∙ keys_of-map_values essence q)

-- the numbers of the held opens are the keys of their rows
pub numbers-pended : (boot : ℕ) (xs : List (ℕ × Waiting)) → open_numbers (map (held_of boot) xs) ≡ map number_of xs
numbers-pended boot [] = refl
numbers-pended boot (x ∷ xs) = ap (λ ns. x.1.open_id ∷ ns) (numbers-pended boot xs)

pub keys-below : (boot n : ℕ) (p : Opens) → AreNumbered p → AllByRecursion (λ k. k < n) (open_numbers (pended_of boot p)) → AllByRecursion (λ k. k < n) (keys_of p)
keys-below boot n p numbered below = subst (AllByRecursion (λ k. k < n)) (numbers-pended boot (plains p) ∙ sym numbered) below

pub pended-end : (boot : ℕ) (xs : List (ℕ × Waiting)) (x : ℕ × Waiting) → map (held_of boot) (xs ++ x ∷ []) ≡ map (held_of boot) xs ++ held_of boot x ∷ []
pended-end boot [] x = refl
pended-end boot (y ∷ xs) x = ap (λ ys. held_of boot y ∷ ys) (pended-end boot xs x)

numbers-end : (xs : List (ℕ × Waiting)) (x : ℕ × Waiting) → map number_of (xs ++ x ∷ []) ≡ map number_of xs ++ number_of x ∷ []
numbers-end [] x = refl
numbers-end (y ∷ xs) x = ap (λ ns. number_of y ∷ ns) (numbers-end xs x)

pub numbered-end : (n k : ℕ) (w : Waiting) (p p' : Opens) → AreNumbered p → plains p' ≡ plains p ++ (n, w) ∷ [] → keys_of p' ≡ keys_of p ++ k ∷ [] → k ≡ w.open_id → AreNumbered p'
numbered-end n k w p p' numbered plains_are keys number =
    keys ∙ (ap (λ ks. ks ++ k ∷ []) numbered ∙ (ap (λ j. map number_of (plains p) ++ j ∷ []) number ∙ sym (ap (map number_of) plains_are ∙ numbers-end (plains p) (n, w))))

pub rows-kept : (boot sequence : ℕ) (q q' : Questions) (p p' : Opens) (k : List (ℕ × Known)) → IsConsistent boot sequence q p k → AreChained q' p' → AreNumbered p' → ((n : ℕ) → sequence < n → of n (plains p') ≡ []) → essences q' ≡ essences q → IsConsistent boot sequence q' p' k
rows-kept boot sequence q q' p p' k consistent chained numbered unasked same = record {
  chained = chained;
  numbered = numbered;
  counted = subst (AllByRecursion (λ n. 1 ≤ n)) (sym (keys-essences q q' same)) consistent.counted;
  asked = subst (AllByRecursion (λ n. n ≤ sequence)) (sym (keys-essences q q' same)) consistent.asked;
  unasked = unasked;
  scanned = subst (λ es. AreScanned boot es k) (sym same) consistent.scanned;
  free = λ s none. consistent.free s (subst (IsUnasked s) same none);
}

pub numbered-result : {E : Type 0} (r : Result (Unit {0}) E) (n k : ℕ) (w : Waiting) (q q' : Questions) (p p' : Opens) → AreNumbered p → k ≡ w.open_id
    → OnOk r (plains p' ≡ plains p ++ (n, w) ∷ []) → OnOk r (keys_of p' ≡ keys_of p ++ k ∷ []) → OnErr r ((p' ≡ p) × (q' ≡ q)) → AreNumbered p'
numbered-result (Ok done) n k w q q' p p' numbered number is keys err = numbered-end n k w p p' numbered is keys number
numbered-result (Err e) n k w q q' p p' numbered number is keys err = subst AreNumbered (sym err.0) numbered

pub none-opens : {X : Type 0} (o : Option X) (boot n : ℕ) (p : Opens) → IfNone o (of n (plains p) ≡ []) → IfNone o (opens_of (id_of boot n) (pended_of boot p) ≡ [])
none-opens None boot n p none = opens-of boot n (plains p) ∙ ap (map (held_of boot)) none
none-opens (Some x) boot n p none = tt

pub some-opens_of : (o : Option Waiting) (boot n : ℕ) (p p' : Opens) → IfSome o (λ w. of n (plains p) ≡ (n, w) ∷ of n (plains p'))
    → IfSome o (λ w. opens_of (id_of boot n) (pended_of boot p) ≡ record { question = id_of boot n; held = w } ∷ opens_of (id_of boot n) (pended_of boot p'))
some-opens_of None boot n p p' some = tt
some-opens_of (Some w) boot n p p' some =
    opens-of boot n (plains p) ∙ (ap (map (held_of boot)) some ∙ ap (λ xs. held_of boot (n, w) ∷ xs) (sym (opens-of boot n (plains p'))))

-- the row of a number as the question of its id
pub question-row : (boot : ℕ) (id : MessageId) (q : Questions) (o : Option Asked) → IsAscending q → id.boot ≡ boot → o ≡ option_map (λ y. y.0) (at q id.seq)
    → option_map (question_in boot id.seq) o ≡ question_at id (questions_of boot q)
question-row boot id q o up same row =
    let is : id ≡ id_of boot id.seq = λ i. record { boot = same i; seq = id.seq } in
    ap (option_map (question_in boot id.seq)) row
    ∙ (by_row (at q id.seq) ∙ sym (ap (λ j. question_at j (questions_of boot q)) is ∙ question-found boot id.seq q up))
  where
    by_row : (o : Option (Asked × ℕ)) → option_map (question_in boot id.seq) (option_map (λ y. y.0) o) ≡ option_map (λ y. asked_of boot (id.seq, essence y)) o
    by_row None = refl
    by_row (Some y) = refl

-- with none of a question left, the others are all
pub all-others : (id : MessageId) (ps : List Pended) → opens_of id ps ≡ [] → other_opens id ps ≡ ps
all-others id [] none = refl
all-others id (p ∷ ps) none = go (waits_for id p) refl (all-others id ps)
  where
    no_cons : (xs : List Pended) → p ∷ xs ≡ [] → ⊥
    no_cons xs e = absurd (cc)

    go : (b : Bool) → waits_for id p ≡ b → (opens_of id ps ≡ [] → other_opens id ps ≡ ps) → other_opens id (p ∷ ps) ≡ p ∷ ps
    go true h rest = absurd (no_cons (opens_of id ps) (sym (ap (λ b. cond b (p ∷ opens_of id ps) (opens_of id ps)) h) ∙ none))
    go false h rest = rw (h) (ap (λ xs. p ∷ xs) (rest (sym (ap (λ b. cond b (p ∷ opens_of id ps) (opens_of id ps)) h) ∙ none)))

-- how many opens a question has
pub length-of : (n : ℕ) (p : Opens) → count_of n p ≡ length (of n (plains p))
length-of n [] = refl
length-of n (d ∷ p) = go (d.1.0.question == n) refl (length-of n p)
  where
    go : (b : Bool) → (d.1.0.question == n) ≡ b → count_of n p ≡ length (of n (plains p)) → count_of n (d ∷ p) ≡ length (of n (plains (d ∷ p)))
    go true h rest = rw (h) (ap (λ c. c + 1) rest ∙ (omega arith))
    go false h rest = rw (h) rest

pub length-held : (boot : ℕ) (xs : List (ℕ × Waiting)) → length (map (held_of boot) xs) ≡ length xs
length-held boot [] = refl
length-held boot (x ∷ xs) = ap suc (length-held boot xs)

pub count-opens : (boot n : ℕ) (q : Questions) (p : Opens) (x : Asked) → AreChained q p → Some x ≡ option_map (λ y. y.0) (at q n) → x.opens ≡ length (opens_of (id_of boot n) (pended_of boot p))
count-opens boot n q p x chained row =
    let found = row_found (at q n) x row in
    let opens : x.opens ≡ count_of n p = (if_some_at (λ z. IsChain z.0 n p) (at q n) (x, found.0) (chained.ends n) found.1).opens in
    opens ∙ (length-of n p ∙ sym (ap length (opens-of boot n (plains p)) ∙ length-held boot (of n (plains p))))

-- what is known of streams as states alone
pub states-puts : (k k' : List (ℕ × Known)) (s : ℕ) (m : Known) → IsAscending k → PutsAt k k' s (Some m) → states k' ≡ with (states k) s m.state
states-puts k k' s m up puts =
    let up_states : IsAscending (states k) = subst (IsStrictlySortedBy nat_cmp) (sym (keys_of-map_values (λ x. x.state) k)) up in
    let up_states' : IsAscending (states k') = subst (IsStrictlySortedBy nat_cmp) (sym (keys_of-map_values (λ x. x.state) k')) (puts-ascends k k' s (Some m) puts up) in
    same_map (states k') (with (states k) s m.state) up_states' (with-ascends (states k) s m.state up_states)
    (λ j. lookup-map_values (λ x. x.state) (is_at (nat_cmp j)) k' ∙ (elim (cases_eq j s) [
      | inl same ↦ ap (λ i. option_map (λ x. x.state) (at k' i)) same ∙ (ap (option_map (λ x. x.state)) puts.here ∙ sym (ap (at (with (states k) s m.state)) same ∙ at-with (states k) s m.state))
      | inr apart ↦ ap (option_map (λ x. x.state)) (puts.others j apart) ∙ (sym (lookup-map_values (λ x. x.state) (is_at (nat_cmp j)) k) ∙ sym (at-with_other (states k) s j m.state apart))
    ]))

-- the questions without one
pub questions-without : (boot n : ℕ) (q : Questions) → IsAscending q → questions_of boot (without q n) ≡ without_question (id_of boot n) (questions_of boot q)
questions-without boot n [] up = refl
questions-without boot n (d ∷ q) up = elim (cases_eq n d.0) [
  | inl same ↦
      let test : same_id (id_of boot d.0) (id_of boot n) ≡ true = test-boot boot d.0 n ∙ eq-eqb d.0 n (sym same) in
      ap (questions_of boot) (without-here q d.0 n d.1 same)
      ∙ sym (ap (λ b. cond (not b) (asked_of boot (d.0, essence d.1) ∷ without_question (id_of boot n) (questions_of boot q)) (without_question (id_of boot n) (questions_of boot q))) test
      ∙ none-there boot n q (subst (λ j. AreAbove j q) (sym same) (head-above d q up)))
  | inr apart ↦
      let test : same_id (id_of boot d.0) (id_of boot n) ≡ false = test-boot boot d.0 n ∙ apart-test d.0 n (λ e. apart (sym e)) in
      ap (questions_of boot) (without-apart q d.0 n d.1 apart)
      ∙ (ap (λ xs. asked_of boot (d.0, essence d.1) ∷ xs) (questions-without boot n q (tail-ascends d q up))
      ∙ sym (ap (λ b. cond (not b) (asked_of boot (d.0, essence d.1) ∷ without_question (id_of boot n) (questions_of boot q)) (without_question (id_of boot n) (questions_of boot q))) test))
]
  where
    none-there : (boot n : ℕ) (q : Questions) → AreAbove n q → without_question (id_of boot n) (questions_of boot q) ≡ questions_of boot q
    none-there boot n [] above = refl
    none-there boot n (d ∷ q) above =
        let test : same_id (id_of boot d.0) (id_of boot n) ≡ false = test-boot boot d.0 n ∙ apart-test d.0 n (λ e. let b = below-cmp n d.0 above.0 in absurd (omega arith)) in
        ap (λ b. cond (not b) (asked_of boot (d.0, essence d.1) ∷ without_question (id_of boot n) (questions_of boot q)) (without_question (id_of boot n) (questions_of boot q))) test
        ∙ ap (λ xs. asked_of boot (d.0, essence d.1) ∷ xs) (none-there boot n q above.1)

all-without : (P : ℕ → Type 0) (q : Questions) (n : ℕ) → AllByRecursion P (keys_of q) → AllByRecursion P (keys_of (without q n))
all-without P [] n all = tt
all-without P (d ∷ q) n all = elim (cases_eq n d.0) [
  | inl same ↦ subst (λ m. AllByRecursion P (keys_of m)) (sym (without-here q d.0 n d.1 same)) all.1
  | inr apart ↦ subst (λ m. AllByRecursion P (keys_of m)) (sym (without-apart q d.0 n d.1 apart)) (all.0, all-without P q n all.1)
]

-- two questions are not of one stream
scans-apart : (boot m n : ℕ) (a b : ℕ) → ◌≡◌ {A = Option Known} (Some (record { key = a; state = Scanning (id_of boot m); held = 1 })) (Some (record { key = b; state = Scanning (id_of boot n); held = 1 })) → m ≡ n
scans-apart boot m n a b same =
    let states_same : ◌≡◌ {A = ContextState} (Scanning (id_of boot m)) (Scanning (id_of boot n)) = ap (λ x. x.state) (some_same _ _ same) in
    ap seq_of states_same
  where
    seq_of : ContextState → ℕ
    seq_of Modified = 0
    seq_of (Scanning id) = id.seq
    seq_of (Judged v r) = 0

pub record Ends (boot sequence n : ℕ) (x : Asked) (q q' : Questions) (p : Opens) (k k' : List (ℕ × Known)) (state : ContextState) : Type 0 where
  pub consistent : IsConsistent boot sequence q' p k'
  pub contexts : states k' ≡ with (states k) x.stream state
  pub questions : questions_of boot q' ≡ without_question (id_of boot n) (questions_of boot q)

pub known-at : (boot sequence n : ℕ) (q : Questions) (p : Opens) (k : List (ℕ × Known)) (x : Asked) (key : ℕ) → IsConsistent boot sequence q p k → at q n ≡ Some (x, key) → at k x.stream ≡ Some (record { key = key; state = Scanning (id_of boot n); held = 1 })
known-at boot sequence n q p k x key consistent found =
    if_some_at (λ y. at k y.0 ≡ Some (record { key = y.1.1; state = Scanning (id_of boot n); held = 1 })) (at (essences q) n) (essence (x, key)) (consistent.scanned n)
    (lookup-map_values essence (is_at (nat_cmp n)) q ∙ ap (option_map essence) found)

-- a question is gone, and its stream's context is one of which no reference is out
gone_consistent : (boot sequence n : ℕ) (q q' : Questions) (p : Opens) (k k' : List (ℕ × Known)) (x : Asked) (key : ℕ) (o : Option Known) → held_out o ≡ 0 → IsConsistent boot sequence q p k
    → at q n ≡ Some (x, key) → PutsAt q q' n None → PutsAt k k' x.stream o → IsConsistent boot sequence q' p k'
gone_consistent boot sequence n q q' p k k' x key o out consistent found gone put =
    let here = known-at boot sequence n q p k x key consistent found in
    record {
      chained = record {
        linked = consistent.chained.linked;
        ends = λ m. if_some (λ z. IsChain z.0 m p) (at q' m) (λ z at_m. elim (cases_eq m n) [
          | inl same ↦ none_some (sym gone.here ∙ (ap (at q') (sym same) ∙ at_m))
          | inr apart ↦ if_some_at (λ y. IsChain y.0 m p) (at q m) z (consistent.chained.ends m) (sym (gone.others m apart) ∙ at_m)
        ]);
      };
      numbered = consistent.numbered;
      counted = subst (λ m. AllByRecursion (λ j. 1 ≤ j) (keys_of m)) (sym gone.whole) (all-without (λ j. 1 ≤ j) q n consistent.counted);
      asked = subst (λ m. AllByRecursion (λ j. j ≤ sequence) (keys_of m)) (sym gone.whole) (all-without (λ j. j ≤ sequence) q n consistent.asked);
      unasked = consistent.unasked;
      free = λ s none. elim (cases_eq s x.stream) [
        | inl same ↦ ap (λ j. held_out (at k' j)) same ∙ (ap held_out put.here ∙ out)
        | inr apart ↦ ap held_out (put.others s apart) ∙ consistent.free s (λ m. elim (cases_eq m n) [
          | inl same ↦ subst (λ o. IfSome o (λ y. y.0 ≢ s)) (sym (ap (at (essences q)) same ∙ (lookup-map_values essence (is_at (nat_cmp n)) q ∙ ap (option_map essence) found))) (λ e. apart (sym e))
          | inr differs ↦ subst (λ o. IfSome o (λ y. y.0 ≢ s)) (lookup-map_values essence (is_at (nat_cmp m)) q' ∙ (ap (option_map essence) (gone.others m differs) ∙ sym (lookup-map_values essence (is_at (nat_cmp m)) q))) (none m)
        ])
      ];
      scanned = λ m. if_some (λ y. at k' y.0 ≡ Some (record { key = y.1.1; state = Scanning (id_of boot m); held = 1 })) (at (essences q') m) (λ y at_m.
          let at_m' : option_map essence (at q' m) ≡ Some y = sym (lookup-map_values essence (is_at (nat_cmp m)) q') ∙ at_m in
          elim (cases_eq m n) [
            | inl same ↦ none_some (sym (ap (λ j. option_map essence (at q' j)) same ∙ ap (option_map essence) gone.here) ∙ at_m')
            | inr apart ↦
                let old : at k y.0 ≡ Some (record { key = y.1.1; state = Scanning (id_of boot m); held = 1 }) =
                if_some_at (λ z. at k z.0 ≡ Some (record { key = z.1.1; state = Scanning (id_of boot m); held = 1 })) (at (essences q) m) y (consistent.scanned m)
                (lookup-map_values essence (is_at (nat_cmp m)) q ∙ (sym (ap (option_map essence) (gone.others m apart)) ∙ at_m')) in
                put.others y.0 (λ same. apart (scans-apart boot m n y.1.1 key (sym old ∙ (ap (at k) same ∙ here)))) ∙ old
          ]);
    }

pub ends : (boot sequence n : ℕ) (q q' : Questions) (p : Opens) (k k' : List (ℕ × Known)) (state : ContextState) (x : Asked) (key : ℕ) → IsConsistent boot sequence q p k → IsAscending q → IsAscending k
    → at q n ≡ Some (x, key) → PutsAt q q' n None → PutsAt k k' x.stream (option_map (given_back state) (at k x.stream)) → Ends boot sequence n x q q' p k k' state
ends boot sequence n q q' p k k' state x key consistent up up_k found gone puts =
    let here = known-at boot sequence n q p k x key consistent found in
    let put : PutsAt k k' x.stream (Some (record { key = key; state = state; held = 0 })) = subst (PutsAt k k' x.stream) (ap (option_map (given_back state)) here) puts in
    record {
      consistent = gone_consistent boot sequence n q q' p k k' x key _ refl consistent found gone put;
      contexts = states-puts k k' x.stream (record { key = key; state = state; held = 0 }) up_k put;
      questions = ap (questions_of boot) gone.whole ∙ questions-without boot n q up;
    }

-- a question ends, and the context of its stream goes
pub states-without : (n : ℕ) (k : List (ℕ × Known)) → states (without k n) ≡ without (states k) n
states-without n [] = refl
states-without n (d ∷ k) = elim (cases_eq n d.0) [
  | inl same ↦ ap states (without-here k d.0 n d.1 same) ∙ sym (without-here (states k) d.0 n d.1.state same)
  | inr apart ↦ ap states (without-apart k d.0 n d.1 apart) ∙ (ap (λ m. (d.0, d.1.state) ∷ m) (states-without n k) ∙ sym (without-apart (states k) d.0 n d.1.state apart))
]

pub record EndsGone (boot sequence n : ℕ) (x : Asked) (q q' : Questions) (p : Opens) (k k' : List (ℕ × Known)) : Type 0 where
  pub consistent : IsConsistent boot sequence q' p k'
  pub contexts : states k' ≡ without (states k) x.stream
  pub questions : questions_of boot q' ≡ without_question (id_of boot n) (questions_of boot q)

pub ends_gone : (boot sequence n : ℕ) (q q' : Questions) (p : Opens) (k k' : List (ℕ × Known)) (x : Asked) (key : ℕ) → IsConsistent boot sequence q p k → IsAscending q
    → at q n ≡ Some (x, key) → PutsAt q q' n None → PutsAt k k' x.stream None → EndsGone boot sequence n x q q' p k k'
ends_gone boot sequence n q q' p k k' x key consistent up found gone put =
    record {
      consistent = gone_consistent boot sequence n q q' p k k' x key None refl consistent found gone put;
      contexts = ap states put.whole ∙ states-without x.stream k;
      questions = ap (questions_of boot) gone.whole ∙ questions-without boot n q up;
    }

-- what is found by an id has it
pub found-id : (id : MessageId) (qs : List Question) (q : Question) → question_at id qs ≡ Some q → q.id ≡ id
found-id id [] q found = none_some found
found-id id (x ∷ qs) q found = go (same_id x.id id) refl (found-id id qs q)
  where
    go : (b : Bool) → same_id x.id id ≡ b → (question_at id qs ≡ Some q → q.id ≡ id) → q.id ≡ id
    go true h rest = ap (λ y. y.id) (some_same q x (sym found ∙ ap (λ b. cond b (Some x) (question_at id qs)) h)) ∙ same_id-true x.id id h
    go false h rest = rest (sym (ap (λ b. cond b (Some x) (question_at id qs)) h) ∙ found)

pub none-of_others : (id : MessageId) (ps : List Pended) → opens_of id (other_opens id ps) ≡ []
none-of_others id [] = refl
none-of_others id (p ∷ ps) = go (waits_for id p) refl (none-of_others id ps)
  where
    go : (b : Bool) → waits_for id p ≡ b → opens_of id (other_opens id ps) ≡ [] → opens_of id (other_opens id (p ∷ ps)) ≡ []
    go true h rest = rw (h) rest
    go false h rest = rw (h, h) rest

-- a question ends whose opens are out
pub ended-others : (t : Table) (id : MessageId) (q : Question) (c : Option ContextState) → question_at id t.questions ≡ Some q → ended (record t { pended = other_opens id t.pended }) q c ≡ ended t q c
unfolding ended
ended-others t id q c found =
    let same : q.id ≡ id = found-id id t.questions q found in
    let twice : other_opens q.id (other_opens id t.pended) ≡ other_opens q.id t.pended =
    ap (λ j. other_opens j (other_opens id t.pended)) same ∙ (all-others id (other_opens id t.pended) (none-of_others id t.pended) ∙ ap (λ j. other_opens j t.pended) (sym same)) in
    λ i. record {
      mode = t.mode;
      limits = t.limits;
      boot = t.boot;
      sequence = t.sequence;
      connected = t.connected;
      floor = t.floor;
      contexts = set_at t.contexts q.stream c;
      questions = without_question q.id t.questions;
      pended = twice i;
      cache = t.cache;
    }

pub refused-ended : (t t1 t2 : Table) (id : MessageId) (c : Option ContextState) → t1 ≡ record t { pended = other_opens id t.pended } → IfSome (question_at id t1.questions) (λ q. t2 ≡ ended t1 q c) → IfSome (question_at id t.questions) (λ q. t2 ≡ ended t q c)
refused-ended t t1 t2 id c is holds =
    if_some (λ q. t2 ≡ ended t q c) (question_at id t.questions) (λ q found.
    if_some_at (λ q. t2 ≡ ended (record t { pended = other_opens id t.pended }) q c) (question_at id t.questions) q (subst (λ u. IfSome (question_at id u.questions) (λ q. t2 ≡ ended u q c)) is holds) found ∙ ended-others t id q c found)

-- what all numbers of a map are, each is that is there
pub all-at : {X : Type 0} (P : ℕ → Type 0) (m : List (ℕ × X)) (k : ℕ) → AllByRecursion P (keys_of m) → IsSome (at m k) → P k
all-at P [] k all some = absurd (cc)
all-at P (d ∷ m) k all some = elim (cases_eq k d.0) [
  | inl same ↦ subst P (sym same) all.0
  | inr apart ↦ all-at P m k all.1 (subst (λ o. IsSome o) (at-apart m d.0 k d.1 apart) some)
]

all-end : (P : ℕ → Type 0) (ns : List ℕ) (n : ℕ) → AllByRecursion P ns → P n → AllByRecursion P (ns ++ n ∷ [])
all-end P [] n all last = (last, tt)
all-end P (m ∷ ns) n all last = (all.0, all-end P ns n all.1 last)

all-more : (P Q : ℕ → Type 0) (ns : List ℕ) → ((n : ℕ) → P n → Q n) → AllByRecursion P ns → AllByRecursion Q ns
all-more P Q [] more all = tt
all-more P Q (n ∷ ns) more all = (more n all.0, all-more P Q ns more all.1)

pub rising : (ns : List ℕ) → IsStrictlySortedBy nat_cmp ns → IsRising ns
unfolding IsStrictlySortedBy
rising [] up = tt
rising (n ∷ ns) up = (all-more (λ k. nat_cmp n k ≡ Less) (λ k. n < k) ns (λ k less. below-cmp n k less) up.0, rising ns up.1)

-- the opens of one question among those of the others, and behind which one of another comes
of-others : (n m : ℕ) (xs : List (ℕ × Waiting)) → n ≢ m → of n (others m xs) ≡ of n xs
of-others n m [] apart = refl
of-others n m (x ∷ xs) apart = go (x.0 == m) refl (x.0 == n) refl (of-others n m xs apart)
  where
    go : (b : Bool) → (x.0 == m) ≡ b → (c : Bool) → (x.0 == n) ≡ c → of n (others m xs) ≡ of n xs → of n (others m (x ∷ xs)) ≡ of n (x ∷ xs)
    go true h true g rest = absurd (apart (sym (eqb-true x.0 n g) ∙ eqb-true x.0 m h))
    go true h false g rest = rw (h, g) rest
    go false h true g rest = rw (h, g) (ap (λ ys. x ∷ ys) rest)
    go false h false g rest = rw (h, g) rest

of-end : (n : ℕ) (xs : List (ℕ × Waiting)) (x : ℕ × Waiting) → (x.0 == n) ≡ false → of n (xs ++ x ∷ []) ≡ of n xs
of-end n [] x apart = rw (apart) refl
of-end n (y ∷ xs) x apart = go (y.0 == n) refl (of-end n xs x apart)
  where
    go : (b : Bool) → (y.0 == n) ≡ b → of n (xs ++ x ∷ []) ≡ of n xs → of n (y ∷ (xs ++ x ∷ [])) ≡ of n (y ∷ xs)
    go true h rest = rw (h) (ap (λ ys. y ∷ ys) rest)
    go false h rest = rw (h) rest

pub unasked-taken : (boot sequence m : ℕ) (q : Questions) (p p' : Opens) (k : List (ℕ × Known)) → IsConsistent boot sequence q p k → IsSome (at q m) → others m (plains p') ≡ others m (plains p) → (n : ℕ) → sequence < n → of n (plains p') ≡ []
unasked-taken boot sequence m q p p' k consistent there same n above =
    let low : m ≤ sequence = all-at (λ j. j ≤ sequence) q m consistent.asked there in
    let apart : n ≢ m = λ e. absurd (omega arith) in
    sym (of-others n m (plains p') apart) ∙ (ap (of n) same ∙ (of-others n m (plains p) apart ∙ consistent.unasked n above))

pub unasked-result : {E : Type 0} (r : Result (Unit {0}) E) (boot sequence m : ℕ) (w : Waiting) (q q' : Questions) (p p' : Opens) (k : List (ℕ × Known)) → IsConsistent boot sequence q p k → IsSome (at q m)
    → OnOk r (plains p' ≡ plains p ++ (m, w) ∷ []) → OnErr r ((p' ≡ p) × (q' ≡ q)) → (n : ℕ) → sequence < n → of n (plains p') ≡ []
unasked-result (Ok done) boot sequence m w q q' p p' k consistent there is err n above =
    let low : m ≤ sequence = all-at (λ j. j ≤ sequence) q m consistent.asked there in
    ap (of n) is ∙ (of-end n (plains p) (m, w) (apart-test m n (λ e. absurd (omega arith))) ∙ consistent.unasked n above)
unasked-result (Err e) boot sequence m w q q' p p' k consistent there is err n above = ap (λ o. of n (plains o)) err.0 ∙ consistent.unasked n above

pub first-none_of : (n : ℕ) (p : Opens) → of n (plains p) ≡ [] → first_of n p ≡ None
first-none_of n [] none = refl
first-none_of n (d ∷ p) none = go (d.1.0.question == n) refl (first-none_of n p)
  where
    no_cons : (x : ℕ × Waiting) (xs : List (ℕ × Waiting)) → x ∷ xs ≡ [] → ⊥
    no_cons x xs e = absurd (cc)

    go : (b : Bool) → (d.1.0.question == n) ≡ b → (of n (plains p) ≡ [] → first_of n p ≡ None) → first_of n (d ∷ p) ≡ None
    go true h rest = absurd (no_cons (plain d) (of n (plains p)) (sym (ap (λ b. cond b (plain d ∷ of n (plains p)) (of n (plains p))) h) ∙ none))
    go false h rest = rw (h) (rest (sym (ap (λ b. cond b (plain d ∷ of n (plains p)) (of n (plains p))) h) ∙ none))

-- a stream with no question
pub unasked-of : (boot s : ℕ) (q : Questions) → question_of s (questions_of boot q) ≡ None → IsUnasked s (essences q)
unasked-of boot s [] none = λ n. tt
unasked-of boot s (d ∷ q) none = go (d.1.0.stream == s) refl (unasked-of boot s q)
  where
    go : (b : Bool) → (d.1.0.stream == s) ≡ b → (question_of s (questions_of boot q) ≡ None → IsUnasked s (essences q)) → IsUnasked s (essences (d ∷ q))
    go true h rest = none_some (sym none ∙ ap (λ b. cond b (Some (asked_of boot (d.0, essence d.1))) (question_of s (questions_of boot q))) h)
    go false h rest = λ n. elim (cases_eq n d.0) [
      | inl same ↦ subst (λ o. IfSome o (λ y. y.0 ≢ s)) (sym (ap (at (essences (d ∷ q))) same ∙ at-same (essences q) d.0 (essence d.1))) (λ e. let t = eq-eqb d.1.0.stream s e in absurd (cc))
      | inr apart ↦ subst (λ o. IfSome o (λ y. y.0 ≢ s)) (sym (at-apart (essences q) d.0 n (essence d.1) apart)) (rest (sym (ap (λ b. cond b (Some (asked_of boot (d.0, essence d.1))) (question_of s (questions_of boot q))) h) ∙ none) n)
    ]

pub questions-end : (boot : ℕ) (q : Questions) (e : ℕ × (Asked × ℕ)) → questions_of boot (q ++ e ∷ []) ≡ questions_of boot q ++ asked_of boot (e.0, essence e.1) ∷ []
questions-end boot [] e = refl
questions-end boot (d ∷ q) e = ap (λ xs. asked_of boot (d.0, essence d.1) ∷ xs) (questions-end boot q e)

pub record Asks (boot sequence : ℕ) (q q' : Questions) (p : Opens) (k k' : List (ℕ × Known)) (port : Port) (stream generation : ℕ) : Type 0 where
  pub consistent : IsConsistent boot (sequence + 1) q' p k'
  pub contexts : states k' ≡ with (states k) stream (Scanning (id_of boot (sequence + 1)))
  pub questions : questions_of boot q' ≡ questions_of boot q ++ record { id = id_of boot (sequence + 1); port = port; stream = stream; generation = generation } ∷ []

pub numbers-below : (boot sequence : ℕ) (q : Questions) (p : Opens) (k : List (ℕ × Known)) → IsConsistent boot sequence q p k → AllByRecursion (λ j. j < sequence + 1) (keys_of q)
numbers-below boot sequence q p k consistent = all-more (λ j. j ≤ sequence) (λ j. j < sequence + 1) (keys_of q) (λ j low. omega arith) consistent.asked

pub new-question : (boot sequence : ℕ) (q : Questions) (p : Opens) (k : List (ℕ × Known)) → IsConsistent boot sequence q p k → at q (sequence + 1) ≡ None
new-question boot sequence q p k consistent = none-past q (sequence + 1) (numbers-below boot sequence q p k consistent)

pub asks : (boot sequence : ℕ) (q q' : Questions) (p : Opens) (k k' : List (ℕ × Known)) (port : Port) (stream generation key : ℕ) → IsConsistent boot sequence q p k → IsAscending k → IsUnasked stream (essences q)
    → PutsAt k k' stream (Some (record { key = key; state = Scanning (id_of boot (sequence + 1)); held = held_out (at k stream) + 1 })) → PutsAt q q' (sequence + 1) (Some (asked_about stream generation port, key)) → Asks boot sequence q q' p k k' port stream generation
asks boot sequence q q' p k k' port stream generation key consistent up_k unasked puts new =
    let none = has_none (sequence + 1) p (first-none_of (sequence + 1) p (consistent.unasked (sequence + 1) (omega arith))) in
    let first = first-none_of (sequence + 1) p (consistent.unasked (sequence + 1) (omega arith)) in
    let below = numbers-below boot sequence q p k consistent in
    let is_end : q' ≡ q ++ (sequence + 1, (asked_about stream generation port, key)) ∷ [] = new.whole ∙ with-end q (sequence + 1) (asked_about stream generation port, key) below in
    let here : at k' stream ≡ Some (record { key = key; state = Scanning (id_of boot (sequence + 1)); held = 1 }) =
    puts.here ∙ ap (λ n. Some (record { key = key; state = Scanning (id_of boot (sequence + 1)); held = n + 1 })) (consistent.free stream unasked) in
    let essence_new : at (essences q') (sequence + 1) ≡ Some (essence (asked_about stream generation port, key)) = lookup-map_values essence (is_at (nat_cmp (sequence + 1))) q' ∙ ap (option_map essence) new.here in
    let essence_old : (m : ℕ) → m ≢ sequence + 1 → at (essences q') m ≡ at (essences q) m =
    λ m apart. lookup-map_values essence (is_at (nat_cmp m)) q' ∙ (ap (option_map essence) (new.others m apart) ∙ sym (lookup-map_values essence (is_at (nat_cmp m)) q)) in
    record {
      consistent = record {
        chained = record {
          linked = consistent.chained.linked;
          ends = λ m. if_some (λ z. IsChain z.0 m p) (at q' m) (λ z at_m. elim (cases_eq m (sequence + 1)) [
            | inl same ↦ subst (λ j. IsChain z.0 j p) (sym same) (subst (λ y. IsChain y.0 (sequence + 1) p) (some_same (asked_about stream generation port, key) z (sym new.here ∙ (ap (at q') (sym same) ∙ at_m)))
                (record { first = sym first; last = sym none.last; opens = sym none.count }))
            | inr apart ↦ if_some_at (λ y. IsChain y.0 m p) (at q m) z (consistent.chained.ends m) (sym (new.others m apart) ∙ at_m)
          ]);
        };
        numbered = consistent.numbered;
        counted = subst (AllByRecursion (λ j. 1 ≤ j)) (sym (ap keys_of is_end ∙ keys-end q (sequence + 1) (asked_about stream generation port, key)))
            (all-end (λ j. 1 ≤ j) (keys_of q) (sequence + 1) consistent.counted (omega arith));
        asked = subst (λ m. AllByRecursion (λ j. j ≤ sequence + 1) m) (sym (ap keys_of is_end ∙ keys-end q (sequence + 1) (asked_about stream generation port, key)))
            (all-end (λ j. j ≤ sequence + 1) (keys_of q) (sequence + 1) (all-more (λ j. j ≤ sequence) (λ j. j ≤ sequence + 1) (keys_of q) (λ j low. omega arith) consistent.asked) (omega arith));
        unasked = λ n above. consistent.unasked n (omega arith);
        scanned = λ m. if_some (λ y. at k' y.0 ≡ Some (record { key = y.1.1; state = Scanning (id_of boot m); held = 1 })) (at (essences q') m) (λ y at_m. elim (cases_eq m (sequence + 1)) [
          | inl same ↦
              let y_is : essence (asked_about stream generation port, key) ≡ y = some_same (essence (asked_about stream generation port, key)) y (sym essence_new ∙ (ap (at (essences q')) (sym same) ∙ at_m)) in
              subst (λ j. at k' y.0 ≡ Some (record { key = y.1.1; state = Scanning (id_of boot j); held = 1 })) (sym same) (subst (λ z. at k' z.0 ≡ Some (record { key = z.1.1; state = Scanning (id_of boot (sequence + 1)); held = 1 })) y_is here)
          | inr apart ↦
              let at_old : at (essences q) m ≡ Some y = sym (essence_old m apart) ∙ at_m in
              puts.others y.0 (if_some_at (λ z. z.0 ≢ stream) (at (essences q) m) y (unasked m) at_old)
              ∙ if_some_at (λ z. at k z.0 ≡ Some (record { key = z.1.1; state = Scanning (id_of boot m); held = 1 })) (at (essences q) m) y (consistent.scanned m) at_old
        ]);
        free = λ s none_s.
            let apart : s ≢ stream = λ e. if_some_at (λ y. y.0 ≢ s) (at (essences q') (sequence + 1)) (essence (asked_about stream generation port, key)) (none_s (sequence + 1)) essence_new (sym e) in
            ap held_out (puts.others s apart) ∙ consistent.free s (λ m. elim (cases_eq m (sequence + 1)) [
              | inl same ↦ subst (λ o. IfSome o (λ y. y.0 ≢ s)) (sym (ap (at (essences q)) same ∙ (lookup-map_values essence (is_at (nat_cmp (sequence + 1))) q ∙ ap (option_map essence) (new-question boot sequence q p k consistent)))) tt
              | inr differs ↦ subst (λ o. IfSome o (λ y. y.0 ≢ s)) (essence_old m differs) (none_s m)
            ]);
      };
      contexts = states-puts k k' stream (record { key = key; state = Scanning (id_of boot (sequence + 1)); held = held_out (at k stream) + 1 }) up_k puts;
      questions = ap (questions_of boot) is_end ∙ questions-end boot q (sequence + 1, (asked_about stream generation port, key));
    }

-- a hold that was undone
pub undone : (k k1 k2 : List (ℕ × Known)) (stream key : ℕ) (m : Known) (old : Option ContextState) → IsAscending k → IsAscending k1 → held_out (at k stream) ≡ 0 → IfSome (at k stream) (λ x. x.key ≡ key)
    → old ≡ option_map (λ x. x.state) (at k stream) → PutsAt k k1 stream (Some m) → PutsAt k1 k2 stream (option_map (known_again key) old) → k2 ≡ k
undone k k1 k2 stream key m old up up1 zero same old_is there back =
    put_back k k1 k2 stream (Some m) up (puts-ascends k1 k2 stream (option_map (known_again key) old) back up1) there (subst (PutsAt k1 k2 stream) (ap (option_map (known_again key)) old_is ∙ by_case (at k stream) zero same) back)
  where
    by_case : (o : Option Known) → held_out o ≡ 0 → IfSome o (λ x. x.key ≡ key) → option_map (known_again key) (option_map (λ x. x.state) o) ≡ o
    by_case None zero same = refl
    by_case (Some x) zero same = λ i. Some (record { key = sym same i; state = x.state; held = sym zero i })

-- the question of a stream: the only one that is of it
pub only-of : (boot s n : ℕ) (q : Questions) (x : Asked × ℕ) → IsAscending q → at q n ≡ Some x → x.0.stream ≡ s → ((m : ℕ) (y : Asked × ℕ) → at q m ≡ Some y → y.0.stream ≡ s → m ≡ n)
    → question_of s (questions_of boot q) ≡ Some (asked_of boot (n, essence x))
only-of boot s n [] x up found same only = none_some found
only-of boot s n (d ∷ q) x up found same only = go (d.1.0.stream == s) refl (only-of boot s n q x (tail-ascends d q up))
  where
    go : (b : Bool) → (d.1.0.stream == s) ≡ b
        → (at q n ≡ Some x → x.0.stream ≡ s → ((m : ℕ) (y : Asked × ℕ) → at q m ≡ Some y → y.0.stream ≡ s → m ≡ n) → question_of s (questions_of boot q) ≡ Some (asked_of boot (n, essence x)))
        → question_of s (questions_of boot (d ∷ q)) ≡ Some (asked_of boot (n, essence x))
    go true h rest =
        let here : d.0 ≡ n = only d.0 d.1 (at-same q d.0 d.1) (eqb-true d.1.0.stream s h) in
        let is : d.1 ≡ x = some_same d.1 x (sym (at-same q d.0 d.1) ∙ (ap (at (d ∷ q)) here ∙ found)) in
        ap (λ b. cond b (Some (asked_of boot (d.0, essence d.1))) (question_of s (questions_of boot q))) h ∙ (λ i. Some (asked_of boot (here i, essence (is i))))
    go false h rest =
        let apart : n ≢ d.0 = λ e. let is : d.1 ≡ x = some_same d.1 x (sym (at-same q d.0 d.1) ∙ (ap (at (d ∷ q)) (sym e) ∙ found)) in let t = eq-eqb d.1.0.stream s (ap (λ y. y.0.stream) is ∙ same) in absurd (cc) in
        ap (λ b. cond b (Some (asked_of boot (d.0, essence d.1))) (question_of s (questions_of boot q))) h
        ∙ rest (sym (at-apart q d.0 n d.1 apart) ∙ found) same
        (λ m y at_m y_same. only m y (at-apart q d.0 m d.1 (λ e. none_some (sym (at-none q d.0 (head-above d q up)) ∙ (ap (at q) (sym e) ∙ at_m))) ∙ at_m) y_same)

pub none-of : (boot s : ℕ) (q : Questions) → IsAscending q → ((m : ℕ) (y : Asked × ℕ) → at q m ≡ Some y → y.0.stream ≢ s) → question_of s (questions_of boot q) ≡ None
none-of boot s [] up none = refl
none-of boot s (d ∷ q) up none =
    ap (λ b. cond b (Some (asked_of boot (d.0, essence d.1))) (question_of s (questions_of boot q))) (apart-test d.1.0.stream s (none d.0 d.1 (at-same q d.0 d.1)))
    ∙ none-of boot s q (tail-ascends d q up) (λ m y at_m. none m y (at-apart q d.0 m d.1 (λ e. none_some (sym (at-none q d.0 (head-above d q up)) ∙ (ap (at q) (sym e) ∙ at_m))) ∙ at_m))

-- each question of a stream is the one that the stream's context names
pub named-by : (boot sequence : ℕ) (q : Questions) (p : Opens) (k : List (ℕ × Known)) → IsConsistent boot sequence q p k → (s m : ℕ) (y : Asked × ℕ) → at q m ≡ Some y → y.0.stream ≡ s → option_map (λ x. x.state) (at k s) ≡ Some (Scanning (id_of boot m))
named-by boot sequence q p k consistent s m y at_m same =
    ap (λ j. option_map (λ x. x.state) (at k j)) (sym same) ∙ ap (option_map (λ x. x.state)) (known-at boot sequence m q p k y.0 y.1 consistent at_m)

-- the state is not that of a question
pub not-named : (boot sequence : ℕ) (q : Questions) (p : Opens) (k : List (ℕ × Known)) (s : ℕ) → IsConsistent boot sequence q p k → IsAscending q → ((id : MessageId) → option_map (λ x. x.state) (at k s) ≢ Some (Scanning id)) → question_of s (questions_of boot q) ≡ None
not-named boot sequence q p k s consistent up none = none-of boot s q up (λ m y at_m same. none (id_of boot m) (named-by boot sequence q p k consistent s m y at_m same))

same-seq : (i j : MessageId) → ◌≡◌ {A = Option ContextState} (Some (Scanning i)) (Some (Scanning j)) → i ≡ j
same-seq i j same = ap (id_in i) (some_same _ _ same)
  where
    id_in : MessageId → ContextState → MessageId
    id_in d Modified = d
    id_in d (Scanning id) = id
    id_in d (Judged v r) = d

-- the question that the state names, where it is of the stream
pub question-named : (boot sequence : ℕ) (q : Questions) (p : Opens) (k : List (ℕ × Known)) (s : ℕ) (id : MessageId) (x : Question) → IsConsistent boot sequence q p k → IsAscending q → option_map (λ y. y.state) (at k s) ≡ Some (Scanning id)
    → Some x ≡ question_at id (questions_of boot q) → x.stream ≡ s → Some x ≡ question_of s (questions_of boot q)
question-named boot sequence q p k s id x consistent up named found of_s = by_boot (cases_eq boot id.boot)
  where
    by_boot : (boot ≡ id.boot) ⊎ (boot ≢ id.boot) → Some x ≡ question_of s (questions_of boot q)
    by_boot (inr apart) = none_some (sym (question-other boot id q apart) ∙ sym found)
    by_boot (inl same) = by_row (at q id.seq) refl
      where
        is : id ≡ id_of boot id.seq
        is = λ i. record { boot = sym same i; seq = id.seq }

        found_at : Some x ≡ option_map (λ y. asked_of boot (id.seq, essence y)) (at q id.seq)
        found_at = found ∙ (ap (λ j. question_at j (questions_of boot q)) is ∙ question-found boot id.seq q up)

        by_row : (o : Option (Asked × ℕ)) → at q id.seq ≡ o → Some x ≡ question_of s (questions_of boot q)
        by_row None none = none_some (sym (ap (option_map (λ y. asked_of boot (id.seq, essence y))) none) ∙ sym found_at)
        by_row (Some y) some =
            let x_is : x ≡ asked_of boot (id.seq, essence y) = some_same x (asked_of boot (id.seq, essence y)) (found_at ∙ ap (option_map (λ z. asked_of boot (id.seq, essence z))) some) in
            ap Some x_is
            ∙ sym (only-of boot s id.seq q y up some (sym (ap (λ z. z.stream) x_is) ∙ of_s)
            (λ m z at_m same_z. ap (λ i. i.seq) (same-seq (id_of boot m) id (sym (named-by boot sequence q p k consistent s m z at_m same_z) ∙ named))))

-- and where it is not, or there is none
pub question-misnamed : (boot sequence : ℕ) (q : Questions) (p : Opens) (k : List (ℕ × Known)) (s : ℕ) (id : MessageId) → IsConsistent boot sequence q p k → IsAscending q → option_map (λ y. y.state) (at k s) ≡ Some (Scanning id)
    → IfSome (question_at id (questions_of boot q)) (λ x. x.stream ≢ s) → question_of s (questions_of boot q) ≡ None
question-misnamed boot sequence q p k s id consistent up named other =
    none-of boot s q up (λ m y at_m same.
    let is : id_of boot m ≡ id = same-seq (id_of boot m) id (sym (named-by boot sequence q p k consistent s m y at_m same) ∙ named) in
    let found : question_at id (questions_of boot q) ≡ Some (asked_of boot (m, essence y)) =
    ap (λ j. question_at j (questions_of boot q)) (sym is) ∙ (question-found boot m q up ∙ ap (option_map (λ z. asked_of boot (m, essence z))) at_m) in
    if_some_at (λ x. x.stream ≢ s) (question_at id (questions_of boot q)) (asked_of boot (m, essence y)) other found same)

-- a context that no question holds takes another state
pub record Sets (boot sequence : ℕ) (q : Questions) (p : Opens) (k k' : List (ℕ × Known)) (stream : ℕ) (state : ContextState) : Type 0 where
  pub consistent : IsConsistent boot sequence q p k'
  pub contexts : states k' ≡ with (states k) stream state

pub sets : (boot sequence : ℕ) (q : Questions) (p : Opens) (k k1 k' : List (ℕ × Known)) (stream key : ℕ) (state : ContextState) → IsConsistent boot sequence q p k → IsAscending k → IsUnasked stream (essences q)
    → PutsAt k k1 stream (Some (record { key = key; state = state; held = held_out (at k stream) + 1 })) → PutsAt k1 k' stream (option_map let_loose (at k1 stream)) → Sets boot sequence q p k k' stream state
sets boot sequence q p k k1 k' stream key state consistent up unasked first second =
    let here : at k' stream ≡ Some (record { key = key; state = state; held = held_out (at k stream) + 1 - 1 }) = second.here ∙ ap (option_map let_loose) first.here in
    let others : (j : ℕ) → j ≢ stream → at k' j ≡ at k j = λ j apart. second.others j apart ∙ first.others j apart in
    let up' = puts-ascends k1 k' stream (option_map let_loose (at k1 stream)) second (puts-ascends k k1 stream _ first up) in
    let puts = puts_at k k' stream (Some (record { key = key; state = state; held = held_out (at k stream) + 1 - 1 })) up up' here others in
    record {
      consistent = record {
        chained = consistent.chained;
        numbered = consistent.numbered;
        counted = consistent.counted;
        asked = consistent.asked;
        unasked = consistent.unasked;
        scanned = λ m. if_some (λ y. at k' y.0 ≡ Some (record { key = y.1.1; state = Scanning (id_of boot m); held = 1 })) (at (essences q) m) (λ y at_m.
            others y.0 (if_some_at (λ z. z.0 ≢ stream) (at (essences q) m) y (unasked m) at_m)
            ∙ if_some_at (λ z. at k z.0 ≡ Some (record { key = z.1.1; state = Scanning (id_of boot m); held = 1 })) (at (essences q) m) y (consistent.scanned m) at_m);
        free = λ s none. elim (cases_eq s stream) [
          | inl same ↦ ap (λ j. held_out (at k' j)) same ∙ (ap held_out here ∙ (ap (λ n. n + 1 - 1) (consistent.free stream unasked)))
          | inr apart ↦ ap held_out (others s apart) ∙ consistent.free s none
        ];
      };
      contexts = states-puts k k' stream (record { key = key; state = state; held = held_out (at k stream) + 1 - 1 }) up puts;
    }

pub states-at : (k : List (ℕ × Known)) (s : ℕ) → option_map (λ x. x.state) (at k s) ≡ at (states k) s
states-at k s = sym (lookup-map_values (λ x. x.state) (is_at (nat_cmp s)) k)

-- no rows, no questions and no opens
pub empty-map : {A B : Type 0} (f : A → B) (xs : List A) → map f xs ≡ [] → xs ≡ []
empty-map f [] none = refl
empty-map f (x ∷ xs) none = absurd (cc)

pub no-questions : (boot : ℕ) (q : Questions) → questions_of boot q ≡ [] → q ≡ []
no-questions boot q none = empty-map (λ e. (e.0, essence e.1)) q (empty-map (asked_of boot) (essences q) none)

pub no-pended : (boot : ℕ) (p : Opens) → pended_of boot p ≡ [] → p ≡ []
no-pended boot p none = empty-map plain p (empty-map (held_of boot) (plains p) none)

pub first-open : (o : Option Waiting) (boot : ℕ) (p p' : Opens) → IfSome o (λ w. (n : ℕ) × (plains p ≡ (n, w) ∷ plains p')) → IfSome o (λ w. (id : MessageId) × (pended_of boot p ≡ record { question = id; held = w } ∷ pended_of boot p'))
first-open None boot p p' is = tt
first-open (Some w) boot p p' is = (id_of boot is.0, ap (map (held_of boot)) is.1)
