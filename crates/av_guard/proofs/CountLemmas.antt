-- One who waits no more, and one who comes to wait.
use Rattle.std.proofs.Common.{◌≡◌, ◌≢◌, ℕ, ◌+◌, ◌-◌, ◌==◌, Bool, true, false, cond, List, [], ◌∷◌, Some, None, if◌then◌else◌, map, refl, arith, ap, ◌∙◌, sym, subst, eq-eqb, eqb-true, true≢false, ⊎_elim}
use Rattle.std.proofs.lemmas.Bool.{cases_Bool}
use Rattle.std.specs.Ordering.{nat_cmp, is_eq, match_ordering}
use Rattle.std.specs.declared.cmp.Ordering.TheVariants.{Less, Equal, Greater}
use Rattle.av_context.proofs.RowsLemmas.{cmp-same}
use Rattle.std.specs.BTreeMap.{is_at}
use Rattle.av_context.specs.Contexts.{at, with, without}
use Rattle.av_filter.specs.Once.{times}
use Rattle.av_guard.specs.Counts.{AreCounted}
use Rattle.av_guard.specs.Shelf.{Adds, Wakes, waits_of}
use Rattle.av_guard.specs.Telling.{Waiters}
use Rattle.av_guard.specs.declared.waiter.Waiter.{Waiter}

-- the streams that are waited for
abbrev pub stream_of : ℕ × Waiter → ℕ
stream_of e = e.1.stream

-- none is gone where none was there
pub without_none : {X : Type 0} (m : List (ℕ × X)) (n : ℕ) → at m n ≡ None → without m n ≡ m
without_none [] n h = refl
without_none (e ∷ m) n h =
    (elim (is_at (nat_cmp n) e.0) as (λ b. cond b (Some e.1) (at m n) ≡ None → cond b m (e ∷ without m n) ≡ e ∷ m) [
      | true ↦ λ bad. absurd cc
      | false ↦ λ rest. ap (λ k. e ∷ k) (without_none m n rest)
    ]) h

-- one who is gone was one more of its stream
pub times_without : (m : Waiters) (n : ℕ) (w : Waiter) (s : ℕ) → at m n ≡ Some w → times s (map stream_of m) ≡ (if w.stream == s then 1 else 0) + times s (map stream_of (without m n))
times_without [] n w s h = absurd cc
times_without (e ∷ m) n w s h =
    (elim (is_at (nat_cmp n) e.0) as (λ b. cond b (Some e.1) (at m n) ≡ Some w → (if e.1.stream == s then 1 else 0) + times s (map stream_of m) ≡ (if w.stream == s then 1 else 0) + times s (map stream_of (cond b m (e ∷ without m n)))) [
      | true ↦ λ here. let same : e.1 ≡ w = cc in rw same refl
      | false ↦ λ rest. omega (arith, times_without m n w s rest)
    ]) h

one_of : (b : Bool) (k n : ℕ) → b ≡ true → k ≡ (if b then 1 else 0) + n → k ≡ 1 + n
one_of true k n e h = h
one_of false k n e h = absurd cc

none_of : (b : Bool) (k n : ℕ) → b ≡ false → k ≡ (if b then 1 else 0) + n → k ≡ n
none_of true k n e h = absurd cc
none_of false k n e h = omega (arith, h)

pub woken : (old new : List (ℕ × ℕ)) (m : Waiters) (n : ℕ) (w : Waiter) → AreCounted old m → at m n ≡ Some w → Wakes old new w.stream → AreCounted new (without m n)
woken old new m n w counted found wakes u = ⊎_elim here away (cases_Bool (w.stream == u))
  where
    rest : times u (map stream_of m) ≡ (if w.stream == u then 1 else 0) + times u (map stream_of (without m n))
    rest = times_without m n w u found

    here : (w.stream == u) ≡ true → waits_of new u ≡ times u (map stream_of (without m n))
    here e =
        let same : w.stream ≡ u = eqb-true w.stream u e in
        let now : waits_of new u ≡ waits_of old u - 1 = subst (λ k. waits_of new k ≡ waits_of old k - 1) same wakes.here in
        omega (arith, now, counted u, one_of (w.stream == u) _ _ e rest)

    away : (w.stream == u) ≡ false → waits_of new u ≡ times u (map stream_of (without m n))
    away e =
        let apart : u ≢ w.stream = λ same. true≢false (sym (eq-eqb w.stream u (sym same)) ∙ e) in
        omega (arith, wakes.others u apart, counted u, none_of (w.stream == u) _ _ e rest)

-- one who comes is one more of its stream
pub times_with : (m : Waiters) (n : ℕ) (w : Waiter) (s : ℕ) → at m n ≡ None → times s (map stream_of (with m n w)) ≡ (if w.stream == s then 1 else 0) + times s (map stream_of m)
times_with [] n w s h = refl
times_with (e ∷ m) n w s h =
    (elim (nat_cmp n e.0) as (λ o. cond (is_eq o) (Some e.1) (at m n) ≡ None → times s (map stream_of (match_ordering o ((n, w) ∷ e ∷ m) ((e.0, w) ∷ m) (e ∷ with m n w))) ≡ (if w.stream == s then 1 else 0) + ((if e.1.stream == s then 1 else 0) + times s (map stream_of m))) [
      | Less ↦ λ rest. refl
      | Equal ↦ λ bad. absurd cc
      | Greater ↦ λ rest. omega (arith, times_with m n w s rest)
    ]) h

-- one who came and is gone
pub without_with : (m : Waiters) (n : ℕ) (w : Waiter) → at m n ≡ None → without (with m n w) n ≡ m
without_with [] n w h = ap (λ o. cond (is_eq o) [] ((n, w) ∷ [])) (cmp-same n)
without_with (e ∷ m) n w h =
    (elim (nat_cmp n e.0) as (λ o. nat_cmp n e.0 ≡ o → cond (is_eq o) (Some e.1) (at m n) ≡ None → without (match_ordering o ((n, w) ∷ e ∷ m) ((e.0, w) ∷ m) (e ∷ with m n w)) n ≡ e ∷ m) [
      | Less ↦ λ is rest. ap (λ o. cond (is_eq o) (e ∷ m) ((n, w) ∷ without (e ∷ m) n)) (cmp-same n)
      | Equal ↦ λ is bad. absurd cc
      | Greater ↦ λ is rest. ap (λ o. cond (is_eq o) (with m n w) (e ∷ without (with m n w) n)) is ∙ ap (λ k. e ∷ k) (without_with m n w rest)
    ]) refl h

pub counted_more : (old new : List (ℕ × ℕ)) (m : Waiters) (n : ℕ) (w : Waiter) → AreCounted old m → at m n ≡ None → Adds old new w.stream → AreCounted new (with m n w)
counted_more old new m n w counted away adds u = ⊎_elim here apart (cases_Bool (w.stream == u))
  where
    rest : times u (map stream_of (with m n w)) ≡ (if w.stream == u then 1 else 0) + times u (map stream_of m)
    rest = times_with m n w u away

    here : (w.stream == u) ≡ true → waits_of new u ≡ times u (map stream_of (with m n w))
    here e =
        let same : w.stream ≡ u = eqb-true w.stream u e in
        let now : waits_of new u ≡ waits_of old u + 1 = subst (λ k. waits_of new k ≡ waits_of old k + 1) same adds.here in
        omega (arith, now, counted u, one_of (w.stream == u) _ _ e rest)

    apart : (w.stream == u) ≡ false → waits_of new u ≡ times u (map stream_of (with m n w))
    apart e =
        let other : u ≢ w.stream = λ same. true≢false (sym (eq-eqb w.stream u (sym same)) ∙ e) in
        omega (arith, adds.others u other, counted u, none_of (w.stream == u) _ _ e rest)

pub restored : (m entered gone : Waiters) (n : ℕ) (w : Waiter) → gone ≡ without entered n → entered ≡ with m n w → at m n ≡ None → gone ≡ m
restored m entered gone n w left came away = left ∙ ap (λ k. without k n) came ∙ without_with m n w away
