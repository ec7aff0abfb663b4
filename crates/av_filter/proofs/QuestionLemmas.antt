-- Questions: their ids, and what stays of them when one goes or comes.
use Rattle.std.proofs.Common.{◌≡◌, ◌≢◌, ℕ, ◌<◌, ◌≤◌, Bool, true, false, cond, not, ◌&&◌, ◌==◌, if◌then◌else◌, List, [], ◌∷◌, ◌++◌, filter, find, Option, Some, None, refl, sym, ap, ◌∙◌, subst, arith}
use Rattle.std.proofs.lemmas.Bool.{and_right, eqb-false, ne_eqb}
use Rattle.std.specs.List.{AllByRecursion as Each}
use Rattle.av_base.proofs.KeyLemmas.{same_id-refl, same_id-true}
use Rattle.av_base.specs.MessageId.{same_id}
use Rattle.av_base.specs.Port.{same_port}
use Rattle.av_base.specs.declared.port.Port.{Port}
use Rattle.av_base.specs.declared.message_id.MessageId.{MessageId}
use Rattle.av_filter.proofs.EachLemmas.{each_weaker, each-append, each-filter, find_each}
use Rattle.av_filter_table.specs.Orderly.{AreApart, AreInOrder, IsGiven}
use Rattle.av_filter_table.specs.Table.{question_at, question_of, question_on, without_question}
use Rattle.av_filter_table.specs.declared.question.Question.{Question}

pub apart-filter : (t : Question → Bool) (qs : List Question) → AreApart qs → AreApart (filter t qs)
apart-filter t [] a = tt
apart-filter t (q ∷ qs) a =
    elim (t q) as (λ b. AreApart (cond b (q ∷ filter t qs) (filter t qs))) [
      | true ↦ (each-filter (λ (k : Question). k.stream ≢ q.stream) t qs a.0, apart-filter t qs a.1)
      | false ↦ apart-filter t qs a.1
    ]

pub apart-push : (qs : List Question) (q : Question) → AreApart qs → Each (λ k. k.stream ≢ q.stream) qs → AreApart (qs ++ q ∷ [])
apart-push [] q a away = (tt, tt)
apart-push (x ∷ qs) q a away = (each-append (λ (k : Question). k.stream ≢ x.stream) qs (q ∷ []) a.0 ((λ e. away.0 (sym e)), tt), apart-push qs q a.1 away.1)

-- the question of an id, where it runs on this port
abbrev pub where_on : Port → Option Question → Option Question
where_on port None = None
where_on port (Some q) = if same_port q.port port then Some q else None

none_on : (port : Port) (id : MessageId) (qs : List Question) → Each (λ q. same_id q.id id ≡ false) qs → question_on port id qs ≡ None
none_on port id [] away = refl
none_on port id (q ∷ qs) away = rw (away.0) (none_on port id qs away.1)

pub on-at : (port : Port) (id : MessageId) (qs : List Question) → AreInOrder qs → question_on port id qs ≡ where_on port (question_at id qs)
on-at port id [] order = refl
on-at port id (q ∷ qs) order = go (same_id q.id id) refl (on-at port id qs order.1)
  where
    others : same_id q.id id ≡ true → Each (λ k. same_id k.id id ≡ false) qs
    others own =
        let same : q.id ≡ id = same_id-true q.id id own in
        subst (λ i. Each (λ k. same_id k.id i ≡ false) qs) same
        (each_weaker (λ k. q.id.seq < k.id.seq) (λ k. same_id k.id q.id ≡ false) (λ k above. let less : q.id.seq < k.id.seq = above in and_right (k.id.boot == q.id.boot) (k.id.seq == q.id.seq) (ne_eqb k.id.seq q.id.seq (λ e. omega arith))) qs order.0)

    go : (b : Bool) → same_id q.id id ≡ b → question_on port id qs ≡ where_on port (question_at id qs) → cond (b && same_port q.port port) (Some q) (question_on port id qs) ≡ where_on port (cond b (Some q) (question_at id qs))
    go true own rest = ap (cond (same_port q.port port) (Some q)) (none_on port id qs (others own))
    go false other rest = rest

-- a stream's only question gone, no question is the stream's
pub away_without : (qs : List Question) (test : Question → Bool) (q : Question) → AreApart qs → find test qs ≡ Some q → Each (λ k. k.stream ≢ q.stream) (without_question q.id qs)
away_without [] test q a h = absurd cc
away_without (x ∷ qs) test q a h =
    let go : (b : Bool) → test x ≡ b → cond b (Some x) (find test qs) ≡ Some q → Each (λ k. k.stream ≢ q.stream) (without_question q.id (x ∷ qs)) = elim [
      | true ↦ λ e k.
          let same : x ≡ q = cc in
          let gone : same_id x.id q.id ≡ true = subst (λ (y : Question). same_id x.id y.id ≡ true) same (same_id-refl x.id) in
          let rest : Each (λ k. k.stream ≢ q.stream) (without_question q.id qs) = each-filter (λ (k : Question). k.stream ≢ q.stream) (λ k. not (same_id k.id q.id)) qs (subst (λ (y : Question). Each (λ (k : Question). k.stream ≢ y.stream) qs) same a.0) in
          subst (λ b. Each (λ (k : Question). k.stream ≢ q.stream) (cond (not b) (x ∷ without_question q.id qs) (without_question q.id qs))) (sym gone) rest
      | false ↦ λ e k.
          let rest : Each (λ (k : Question). k.stream ≢ q.stream) (without_question q.id qs) = away_without qs test q a.1 k in
          let apart : q.stream ≢ x.stream = find_each (λ (k : Question). k.stream ≢ x.stream) test qs q a.0 k in
          elim (not (same_id x.id q.id)) as (λ b. Each (λ (k : Question). k.stream ≢ q.stream) (cond b (x ∷ without_question q.id qs) (without_question q.id qs))) [
            | true ↦ ((λ e. apart (sym e)), rest)
            | false ↦ rest
          ]
    ] in
    go (test x) refl h

pub away_none : (qs : List Question) (s : ℕ) → question_of s qs ≡ None → Each (λ q. q.stream ≢ s) qs
away_none [] s h = tt
away_none (q ∷ qs) s h =
    let go : (b : Bool) → (q.stream == s) ≡ b → cond b (Some q) (question_of s qs) ≡ None → Each (λ (q : Question). q.stream ≢ s) (q ∷ qs) = elim [
      | true ↦ λ e k. absurd cc
      | false ↦ λ e k. (eqb-false q.stream s e, away_none qs s k)
    ] in
    go (q.stream == s) refl h

-- a question that is found stays so, where another one goes, and where one comes
pub found_without : (id gone : MessageId) (q : Question) (qs : List Question) → same_id id gone ≡ false → question_at id qs ≡ Some q → question_at id (without_question gone qs) ≡ Some q
found_without id gone q [] other h = h
found_without id gone q (x ∷ qs) other h =
    let go : (b : Bool) → same_id x.id id ≡ b → cond b (Some x) (question_at id qs) ≡ Some q → question_at id (cond (not (same_id x.id gone)) (x ∷ without_question gone qs) (without_question gone qs)) ≡ Some q = elim [
      | true ↦ λ e k.
          let stays : same_id x.id gone ≡ false = ap (λ i. same_id i gone) (same_id-true x.id id e) ∙ other in
          rw stays (rw e k)
      | false ↦ λ e k.
          let rest : question_at id (without_question gone qs) ≡ Some q = found_without id gone q qs other k in
          elim (not (same_id x.id gone)) as (λ b. question_at id (cond b (x ∷ without_question gone qs) (without_question gone qs)) ≡ Some q) [
            | true ↦ ap (λ b. cond b (Some x) (question_at id (without_question gone qs))) e ∙ rest
            | false ↦ rest
          ]
    ] in
    go (same_id x.id id) refl h

pub found_more : (id : MessageId) (q : Question) (qs more : List Question) → question_at id qs ≡ Some q → question_at id (qs ++ more) ≡ Some q
found_more id q [] more h = absurd cc
found_more id q (x ∷ qs) more h =
    let go : (b : Bool) → cond b (Some x) (question_at id qs) ≡ Some q → cond b (Some x) (question_at id (qs ++ more)) ≡ Some q = elim [
      | true ↦ λ k. k
      | false ↦ λ k. found_more id q qs more k
    ] in
    go (same_id x.id id) h

-- a later id is of none, and a new question of it is found
pub found_new : (boot sequence : ℕ) (q : Question) (qs : List Question) → sequence < q.id.seq → Each (IsGiven boot sequence) qs → question_at q.id (qs ++ q ∷ []) ≡ Some q
found_new boot sequence q [] later given = rw (same_id-refl q.id) refl
found_new boot sequence q (x ∷ qs) later given =
    let high : x.id.seq ≤ sequence = given.0.high in
    let other : same_id x.id q.id ≡ false = and_right (x.id.boot == q.id.boot) (x.id.seq == q.id.seq) (ne_eqb x.id.seq q.id.seq (λ e. omega arith)) in
    rw other (found_new boot sequence q qs later given.1)

-- questions in order stay so, and each is found by its id
pub order-filter : (t : Question → Bool) (qs : List Question) → AreInOrder qs → AreInOrder (filter t qs)
order-filter t [] a = tt
order-filter t (q ∷ qs) a =
    elim (t q) as (λ b. AreInOrder (cond b (q ∷ filter t qs) (filter t qs))) [
      | true ↦ (each-filter (λ (k : Question). q.id.seq < k.id.seq) t qs a.0, order-filter t qs a.1)
      | false ↦ order-filter t qs a.1
    ]

pub order-push : (boot sequence : ℕ) (qs : List Question) (q : Question) → sequence < q.id.seq → Each (IsGiven boot sequence) qs → AreInOrder qs → AreInOrder (qs ++ q ∷ [])
order-push boot sequence [] q later given a = (tt, tt)
order-push boot sequence (x ∷ qs) q later given a =
    let high : x.id.seq ≤ sequence = given.0.high in
    (each-append (λ (k : Question). x.id.seq < k.id.seq) qs (q ∷ []) a.0 (omega arith, tt), order-push boot sequence qs q later given.1 a.1)

pub found_own : (test : Question → Bool) (q : Question) (qs : List Question) → AreInOrder qs → find test qs ≡ Some q → question_at q.id qs ≡ Some q
found_own test q [] a h = absurd cc
found_own test q (x ∷ qs) a h =
    let go : (b : Bool) → cond b (Some x) (find test qs) ≡ Some q → question_at q.id (x ∷ qs) ≡ Some q = elim [
      | true ↦ λ k.
          let same : x ≡ q = cc (k) in
          let gone : same_id x.id q.id ≡ true = subst (λ (y : Question). same_id x.id y.id ≡ true) same (same_id-refl x.id) in
          rw gone k
      | false ↦ λ k.
          let less : x.id.seq < q.id.seq = find_each (λ (y : Question). x.id.seq < y.id.seq) test qs q a.0 k in
          let other : same_id x.id q.id ≡ false = and_right (x.id.boot == q.id.boot) (x.id.seq == q.id.seq) (ne_eqb x.id.seq q.id.seq (λ e. omega arith)) in
          rw other (found_own test q qs a.1 k)
    ] in
    go (test x) h
