-- Each ask of a client that has not left is told or waits, once.
use Rattle.std.proofs.Common.{◌≡◌, ◌⊎◌, ℕ, ◌+◌, ◌==◌, ◌&&◌, Bool, true, false, cond, List, [], ◌∷◌, ◌++◌, Option, Some, None, if◌then◌else◌, refl, arith, ap, ◌∙◌, sym, subst, inl, inr, eqb-true}
use Rattle.std.specs.BTreeMap.{is_at}
use Rattle.std.specs.Ordering.{is_eq, match_ordering, nat_cmp}
use Rattle.std.specs.declared.cmp.Ordering.TheVariants.{Less, Equal, Greater}
use Rattle.av_context.specs.Contexts.{at, with, without}
use Rattle.av_filter.specs.Conduct.{FilterEvent, Opens, filter_step}
use Rattle.av_filter_table.specs.Table.{Table}
use Rattle.av_guard.proofs.CountLemmas.{without_none}
use Rattle.av_guard.specs.Answering.{asks_of, one_if, told_of, waits_of_ask}
use Rattle.av_guard.specs.Asking.{opens}
use Rattle.av_guard.specs.State.{State, happens}
use Rattle.av_guard.specs.Telling.{Waiters, answered, is_here, left_by, told_by, told_one}
use Rattle.av_guard.specs.Ask.{Ask}
use Rattle.av_guard.specs.declared.given.Told.{Told}
use Rattle.av_guard.specs.declared.waiter.Waiter.{Waiter}
use Rattle.av_pend.specs.Pend.{open_of}
use Rattle.av_pend.specs.declared.answer.Answer.{Answer}

module _ (client tag : ℕ) where
  abbrev pub one : ℕ → ℕ → ℕ
  one c t = one_if client tag c t

  pub told-append : (xs ys : List Told) → told_of client tag (xs ++ ys) ≡ told_of client tag xs + told_of client tag ys
  told-append [] ys = omega arith
  told-append (x ∷ xs) ys = omega (arith, told-append xs ys)

  pub asks-append : (xs ys : List Ask) → asks_of client tag (xs ++ ys) ≡ asks_of client tag xs + asks_of client tag ys
  asks-append [] ys = omega arith
  asks-append (x ∷ xs) ys = omega (arith, asks-append xs ys)

  -- who is gone waited, and who comes waits
  wait_less : (m : Waiters) (k : ℕ) (w : Waiter) → at m k ≡ Some w → waits_of_ask client tag m ≡ one w.client w.tag + waits_of_ask client tag (without m k)
  wait_less [] k w h = absurd cc
  wait_less (e ∷ m) k w h =
      (elim (is_at (nat_cmp k) e.0) as (λ b. cond b (Some e.1) (at m k) ≡ Some w → one e.1.client e.1.tag + waits_of_ask client tag m ≡ one w.client w.tag + waits_of_ask client tag (cond b m (e ∷ without m k))) [
        | true ↦ λ here. let same : e.1 ≡ w = cc in ap (λ (x : Waiter). one x.client x.tag + waits_of_ask client tag m) same
        | false ↦ λ rest. omega (arith, wait_less m k w rest)
      ]) h

  wait_more : (m : Waiters) (k : ℕ) (w : Waiter) → at m k ≡ None → waits_of_ask client tag (with m k w) ≡ one w.client w.tag + waits_of_ask client tag m
  wait_more [] k w h = refl
  wait_more (e ∷ m) k w h =
      (elim (nat_cmp k e.0) as (λ o. cond (is_eq o) (Some e.1) (at m k) ≡ None → waits_of_ask client tag (match_ordering o ((k, w) ∷ e ∷ m) ((e.0, w) ∷ m) (e ∷ with m k w)) ≡ one w.client w.tag + (one e.1.client e.1.tag + waits_of_ask client tag m)) [
        | Less ↦ λ rest. refl
        | Equal ↦ λ bad. absurd cc
        | Greater ↦ λ rest. omega (arith, wait_more m k w rest)
      ]) h

  -- the client is there, or nothing of it is left
  abbrev pub Here : List ℕ → ℕ → Type 0
  Here clients n = (is_here clients client ≡ true) ⊎ (n ≡ 0)

  not_one : (c t : ℕ) → (c == client) ≡ false → one c t ≡ 0
  not_one c t e = ap (λ b. if b && (t == tag) then 1 else 0) e

  told_it : (clients : List ℕ) (t : Table) (a : Answer) (w : Waiter) → (is_here clients client ≡ true) ⊎ (one w.client w.tag ≡ 0) → told_of client tag (told_one clients t a (Some w)) ≡ one w.client w.tag
  told_it clients t a w h = go (w.client == client) refl h
    where
      shown : (b : Bool) → is_here clients w.client ≡ b → (b ≡ true) ⊎ (one w.client w.tag ≡ 0) → told_of client tag (told_one clients t a (Some w)) ≡ one w.client w.tag
      shown true e k = ap (λ b. told_of client tag (if b then record { client = w.client; tag = w.tag; answer = answered t w.stream a } ∷ [] else [])) e ∙ omega arith
      shown false e (inl bad) = absurd cc
      shown false e (inr none) = ap (λ b. told_of client tag (if b then record { client = w.client; tag = w.tag; answer = answered t w.stream a } ∷ [] else [])) e ∙ sym none

      go : (b : Bool) → (w.client == client) ≡ b → (is_here clients client ≡ true) ⊎ (one w.client w.tag ≡ 0) → told_of client tag (told_one clients t a (Some w)) ≡ one w.client w.tag
      go false e k = shown (is_here clients w.client) refl (inr (not_one w.client w.tag e))
      go true e (inr none) = shown (is_here clients w.client) refl (inr none)
      go true e (inl here) = shown (is_here clients w.client) refl (inl (subst (λ n. is_here clients n ≡ true) (sym (eqb-true w.client client e)) here))

  -- what is told and who waits on are who waited
  settled : (clients : List ℕ) (t : Table) (answers : List Answer) (m : Waiters) → Here clients (waits_of_ask client tag m) → told_of client tag (told_by clients t m answers) + waits_of_ask client tag (left_by m answers) ≡ waits_of_ask client tag m
  unfolding told_by left_by
  settled clients t [] m h = omega arith
  settled clients t (a ∷ rest) m h = go (at m (open_of a)) refl (λ k. settled clients t rest (without m (open_of a)) k)
    where
      go : (o : Option Waiter) → at m (open_of a) ≡ o
          → (Here clients (waits_of_ask client tag (without m (open_of a))) → told_of client tag (told_by clients t (without m (open_of a)) rest) + waits_of_ask client tag (left_by (without m (open_of a)) rest) ≡ waits_of_ask client tag (without m (open_of a)))
          → told_of client tag (told_one clients t a o ++ told_by clients t (without m (open_of a)) rest) + waits_of_ask client tag (left_by (without m (open_of a)) rest) ≡ waits_of_ask client tag m
      go None e ih =
          let same : without m (open_of a) ≡ m = without_none m (open_of a) e in
          ih (subst (λ x. Here clients (waits_of_ask client tag x)) (sym same) h) ∙ ap (waits_of_ask client tag) same
      go (Some w) e ih =
          let less = wait_less m (open_of a) w e in
          let rest_here : Here clients (waits_of_ask client tag (without m (open_of a))) = elim h [ inl here ↦ inl here | inr none ↦ inr (omega (arith, none, less)) ] in
          let w_here : (is_here clients client ≡ true) ⊎ (one w.client w.tag ≡ 0) = elim h [ inl here ↦ inl here | inr none ↦ inr (omega (arith, none, less)) ] in
          omega (arith, less, ih rest_here, told-append (told_one clients t a (Some w)) (told_by clients t (without m (open_of a)) rest), told_it clients t a w w_here)

  -- of the client's asks, those that wait
  abbrev pub open_asks : State → ℕ
  open_asks g = waits_of_ask client tag g.waiting

  abbrev pub IsIn : State → Type 0
  IsIn g = Here g.clients (open_asks g)

  -- what a call told and left, of so many asks before
  pub record Adds (g new : State) (ts : List Told) (more : ℕ) : Type 0 where
    pub sum : told_of client tag ts + open_asks new ≡ more + open_asks g
    pub here : IsIn new

  pub happened : (g : State) (e : FilterEvent) → IsIn g → Adds g (happens g e).state (happens g e).told 0
  happened g e h =
      let few : Here g.clients (waits_of_ask client tag g.waiting) = elim h [ inl here ↦ inl here | inr none ↦ inr (omega (arith, none)) ] in
      let r = filter_step g.table g.volume e in
      let sum = settled g.clients r.table r.answers g.waiting few in
      record { sum = omega (arith, sum); here = elim h [ inl here ↦ inl here | inr none ↦ inr (omega (arith, none, sum)) ] }

  -- an ask of a client that is here is one more
  pub one_here : (clients : List ℕ) (c t n : ℕ) → is_here clients c ≡ true → Here clients n → Here clients (one c t + n)
  one_here clients c t n there (inl here) = inl here
  one_here clients c t n there (inr none) = go (c == client) refl
    where
      go : (b : Bool) → (c == client) ≡ b → Here clients (one c t + n)
      go true e = inl (subst (λ k. is_here clients k ≡ true) (eqb-true c client e) there)
      go false e = inr (omega (arith, none, not_one c t e))

  pub opened_counts : (g : State) (s c t : ℕ) → at g.waiting (g.volume.opens + 1) ≡ None → is_here g.clients c ≡ true → IsIn g → Adds g (opens g s c t).state (opens g s c t).told (one c t)
  opened_counts g s c t away there h =
      let w : Waiter = record { client = c; tag = t; stream = s } in
      let now : State = record g { waiting = with g.waiting (g.volume.opens + 1) w } in
      let more = wait_more g.waiting (g.volume.opens + 1) w away in
      let here : IsIn now = elim (one_here g.clients c t (open_asks g) there h) [ inl here ↦ inl here | inr none ↦ inr (omega (arith, none, more)) ] in
      let done = happened now (Opens s 0) here in
      record { sum = omega (arith, done.sum, more); here = done.here }
