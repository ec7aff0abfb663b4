-- Who waits here and which opens the filter holds, after an event.
use Rattle.std.proofs.Common.{◌≡◌, ◌≢◌, ℕ, ◌+◌, ◌≤◌, ◌==◌, true, false, cond, List, [], ◌∷◌, map, Option, Some, None, if◌then◌else◌, refl, arith, ap, ◌∙◌, subst}
use Rattle.std.proofs.lemmas.Bool.Decides.{nat_tests}
use Rattle.std.specs.BTreeMap.{is_at}
use Rattle.std.specs.List.{AllByRecursion as Each}
use Rattle.std.specs.Ordering.{is_eq, match_ordering, nat_cmp}
use Rattle.std.specs.declared.cmp.Ordering.TheVariants.{Less, Equal, Greater}
use Rattle.std.specs.declared.random_state.RandomState.{RandomState}
use Rattle.av_context.specs.Contexts.{at, with, without}
use Rattle.av_filter.proofs.CountLemmas.{filter_balanced, opens_after}
use Rattle.av_filter.proofs.EachLemmas.{each_weaker, each_both}
use Rattle.av_filter.specs.Conduct.{FilterEvent, filter_step}
use Rattle.av_filter.specs.Fit.{Fits, IsPresent}
use Rattle.av_filter.specs.Once.{once_up_to, times}
use Rattle.av_filter.specs.Reaction.{Reaction}
use Rattle.av_numbered.proofs.MapLemmas.{at-without_other}
use Rattle.av_filter_table.specs.Table.{Table}
use Rattle.av_filter_table.specs.declared.pended.Pended.{Pended}
use Rattle.av_filter_table.specs.declared.question.Question.{Question}
use Rattle.av_guard.proofs.StayLemmas.{Comes, Stays, event_stays}
use Rattle.av_guard.specs.Telling.{Waiters, left_by}
use Rattle.av_guard.specs.Waiting.{ArePaired, IsAwaited}
use Rattle.av_guard.specs.Written.{AreWritten, IsWritten}
use Rattle.av_guard.specs.declared.waiter.Waiter.{Waiter}
use Rattle.av_pend.specs.Pend.{open_of}
use Rattle.av_pend.specs.declared.answer.Answer.{Answer}
use Rattle.av_store.specs.Rows.{Streams, is_number, stream_at}
use Rattle.av_store.specs.Store.{Store}
use Rattle.av_store.specs.declared.stream.Stream.{Stream}

-- the numbers of the opens that are waited for, and of those that the filter holds
abbrev pub keys : Waiters → List ℕ
keys m = map (λ e. e.0) m

abbrev pub ids : List Pended → List ℕ
ids ps = map (λ p. p.held.open_id) ps

miss : (u k : ℕ) → u ≢ k → is_eq (nat_cmp u k) ≡ false
miss u k ne = grind (arith, nat_tests, ne)

same : (k : ℕ) → is_eq (nat_cmp k k) ≡ true
same k = grind (arith, nat_tests)

pub key_less : (m : Waiters) (k : ℕ) (w : Waiter) (n : ℕ) → at m k ≡ Some w → times n (keys m) ≡ (if k == n then 1 else 0) + times n (keys (without m k))
key_less [] k w n h = absurd cc
key_less (e ∷ m) k w n h =
    (elim (is_at (nat_cmp k) e.0) as (λ b. is_eq (nat_cmp k e.0) ≡ b → cond b (Some e.1) (at m k) ≡ Some w → (if e.0 == n then 1 else 0) + times n (keys m) ≡ (if k == n then 1 else 0) + times n (keys (cond b m (e ∷ without m k)))) [
      | true ↦ λ is here. grind (arith, nat_tests, is)
      | false ↦ λ is rest. omega (arith, key_less m k w n rest)
    ]) refl h

pub key_more : (m : Waiters) (k : ℕ) (w : Waiter) (n : ℕ) → at m k ≡ None → times n (keys (with m k w)) ≡ (if k == n then 1 else 0) + times n (keys m)
key_more [] k w n h = refl
key_more (e ∷ m) k w n h =
    (elim (nat_cmp k e.0) as (λ o. cond (is_eq o) (Some e.1) (at m k) ≡ None → times n (keys (match_ordering o ((k, w) ∷ e ∷ m) ((e.0, w) ∷ m) (e ∷ with m k w))) ≡ (if k == n then 1 else 0) + ((if e.0 == n then 1 else 0) + times n (keys m))) [
      | Less ↦ λ rest. refl
      | Equal ↦ λ bad. absurd cc
      | Greater ↦ λ rest. omega (arith, key_more m k w n rest)
    ]) h

-- a number that nobody waits for, and one that is waited for
pub at_none : (m : Waiters) (k : ℕ) → times k (keys m) ≡ 0 → at m k ≡ None
at_none m k none = go (at m k) refl
  where
    go : (o : Option Waiter) → at m k ≡ o → at m k ≡ None
    go None e = e
    go (Some w) e = absurd (grind (arith, nat_tests, key_less m k w k e, none))

pub at_some : (m : Waiters) (k : ℕ) → 1 ≤ times k (keys m) → (w : Waiter) × (at m k ≡ Some w)
at_some [] k some = absurd (omega (arith, some))
at_some (e ∷ m) k some =
    (elim (is_at (nat_cmp k) e.0) as (λ b. is_eq (nat_cmp k e.0) ≡ b → (w : Waiter) × (cond b (Some e.1) (at m k) ≡ Some w)) [
      | true ↦ λ is. (e.1, refl)
      | false ↦ λ is. at_some m k (grind (arith, nat_tests, is, some))
    ]) refl

-- the one who waits for another open
pub at_other : (m : Waiters) (k u : ℕ) (w : Waiter) → at m k ≡ None → u ≢ k → at (with m k w) u ≡ at m u
at_other [] k u w away ne = ap (λ b. cond b (Some w) None) (miss u k ne)
at_other (e ∷ m) k u w away ne =
    (elim (nat_cmp k e.0) as (λ o. cond (is_eq o) (Some e.1) (at m k) ≡ None → at (match_ordering o ((k, w) ∷ e ∷ m) ((e.0, w) ∷ m) (e ∷ with m k w)) u ≡ at (e ∷ m) u) [
      | Less ↦ λ rest. ap (λ b. cond b (Some w) (at (e ∷ m) u)) (miss u k ne)
      | Equal ↦ λ bad. absurd cc
      | Greater ↦ λ rest. ap (λ o. cond (is_eq (nat_cmp u e.0)) (Some e.1) o) (at_other m k u w rest ne)
    ]) away

pub at_new : (m : Waiters) (k : ℕ) (w : Waiter) → at m k ≡ None → at (with m k w) k ≡ Some w
at_new [] k w away = ap (λ b. cond b (Some w) None) (same k)
at_new (e ∷ m) k w away =
    (elim (nat_cmp k e.0) as (λ o. nat_cmp k e.0 ≡ o → cond (is_eq o) (Some e.1) (at m k) ≡ None → at (match_ordering o ((k, w) ∷ e ∷ m) ((e.0, w) ∷ m) (e ∷ with m k w)) k ≡ Some w) [
      | Less ↦ λ is rest. ap (λ b. cond b (Some w) (at (e ∷ m) k)) (same k)
      | Equal ↦ λ is bad. absurd cc
      | Greater ↦ λ is rest. ap (λ o. cond (is_eq o) (Some e.1) (at (with m k w) k)) is ∙ at_new m k w rest
    ]) refl away

-- after answers, who waits is as many as before but for these; P: how many are left of each number
pub left_keys : (P : ℕ → ℕ) (answers : List Answer) (m : Waiters) → ((n : ℕ) → times n (keys m) ≡ P n + times n (map open_of answers)) → (n : ℕ) → times n (keys (left_by m answers)) ≡ P n
unfolding left_by
left_keys P [] m h n = omega (arith, h n)
left_keys P (a ∷ rest) m h n =
    let k = open_of a in
    let own : ◌≡◌ {A = ℕ} (if k == k then 1 else 0) 1 = grind (arith, nat_tests) in
    let some : 1 ≤ times k (keys m) = omega (arith, h k, own) in
    let found = at_some m k some in
    left_keys P rest (without m k) (λ u. omega (arith, h u, key_less m k found.0 u found.1)) n

-- who waits for an open that was not answered waits on
pub left_same : (answers : List Answer) (m : Waiters) (n : ℕ) → times n (map open_of answers) ≡ 0 → at (left_by m answers) n ≡ at m n
unfolding left_by
left_same [] m n none = refl
left_same (a ∷ rest) m n none =
    let apart : n ≢ open_of a = λ same. grind (arith, nat_tests, same, none) in
    left_same rest (without m (open_of a)) n (omega (arith, none)) ∙ at-without_other m (open_of a) n apart

-- each open that the filter holds is counted
counted : (ps : List Pended) → Each (λ p. 1 ≤ times p.held.open_id (ids ps)) ps
counted [] = tt
counted (p ∷ ps) =
    (grind (arith, nat_tests), each_weaker (λ o. 1 ≤ times o.held.open_id (ids ps)) (λ o. 1 ≤ times o.held.open_id (ids (p ∷ ps))) (λ o h. omega (arith, h)) ps (counted ps))

-- no open has a number that was not taken
pub times_above : (ps : List Pended) (k : ℕ) → Each (λ p. p.held.open_id ≤ k) ps → times (k + 1) (ids ps) ≡ 0
times_above [] k all = refl
times_above (p ∷ ps) k all = grind (arith, nat_tests, all.0, times_above ps k all.1)

-- the streams of a guard's volume, and the questions about them, are of generation 2
pub of_two : (key : RandomState) (ss : Streams) → AreWritten key ss → (s : ℕ) (x : Stream) → stream_at s ss ≡ Some x → IsWritten key x
of_two key [] all s x at = absurd cc
of_two key (e ∷ ss) all s x at =
    (elim (is_number s e.0) as (λ b. cond b (Some e.1) (stream_at s ss) ≡ Some x → IsWritten key x) [
      | true ↦ λ here. let same : e.1 ≡ x = cc in subst (IsWritten key) same all.0
      | false ↦ λ rest. of_two key ss all.1 s x rest
    ]) at

pub asked_two : (key : RandomState) (t : Table) (v : Store) → Fits t v → AreWritten key v.streams → Each (λ q. q.generation ≡ 2) t.questions
asked_two key t v fits all = each_weaker (IsPresent v.streams) (λ (q : Question). q.generation ≡ 2) (λ q h. h.2 ∙ (of_two key v.streams all q.stream h.0 h.1).once) t.questions fits.present

-- what an event leaves and answers, by those who wait as it comes
module _ (key : RandomState) (t : Table) (v : Store) (m : Waiters) (e : FilterEvent) (fits : Fits t v) (all : AreWritten key v.streams)
    (counts : (n : ℕ) → times n (keys m) + once_up_to v.opens n ≡ times n (ids t.pended) + once_up_to (opens_after v.opens e) n)
    (once : (n : ℕ) → times n (keys m) ≤ 1)
    (streams : Each (λ p. IsAwaited m p.held.open_id p.held.stream) t.pended)
    (comes : Comes (IsAwaited m) 2 v e) where
  abbrev r : Reaction
  r = filter_step t v e

  pub stays : Stays (IsAwaited m) 2 r
  stays = event_stays (IsAwaited m) 2 t v streams (asked_two key t v fits all) (λ s x at. (of_two key v.streams all s x at).once) e comes

  parts : (n : ℕ) → times n (keys m) ≡ times n (ids r.table.pended) + times n (map open_of r.answers)
  parts n = omega (arith, counts n, (filter_balanced t v e).kept n)

  pub paired : ArePaired r.table.pended (left_by m r.answers)
  paired = record {
    each = left_keys (λ n. times n (ids r.table.pended)) r.answers m parts;
    once = λ n. omega (arith, parts n, once n);
    streams =
        each_both (λ p. IsAwaited m p.held.open_id p.held.stream) (λ p. 1 ≤ times p.held.open_id (ids r.table.pended)) (λ p. IsAwaited (left_by m r.answers) p.held.open_id p.held.stream)
        (λ p w some. (w.0, left_same r.answers m p.held.open_id (omega (arith, parts p.held.open_id, once p.held.open_id, some)) ∙ w.1, w.2)) r.table.pended stays.pended (counted r.table.pended);
  }
