-- A content that is waited for has a question that runs, and another ask of it waits for that question.
use Rattle.std.proofs.Common.{◌≡◌, ◌≢◌, ℕ, ◌+◌, ◌≤◌, ◌==◌, Bool, true, false, not, cond, List, [], ◌∷◌, map, Option, Some, None, is_some, if◌then◌else◌, refl, arith, ap, ◌∙◌, sym, subst, eqb-true}
use Rattle.std.proofs.lemmas.Bool.Decides.{nat_tests}
use Rattle.std.specs.List.{AllByRecursion as Each}
use Rattle.std.specs.Ordering.{is_eq, nat_cmp}
use Rattle.std.specs.Prelude.{nat_lt}
use Rattle.av_base.specs.MessageId.{same_id}
use Rattle.av_base.specs.declared.verdict.Verdict.{Verdict}
use Rattle.av_context.specs.Contexts.{at, with}
use Rattle.av_filter.proofs.EachLemmas.{each_weaker, find_each}
use Rattle.av_filter.proofs.OpeningLemmas.{opened_joined}
use Rattle.av_filter.specs.Conduct.{Opens, filter_step}
use Rattle.av_filter.specs.Fit.{IsAsked, IsCoherent}
use Rattle.av_filter.specs.Once.{times}
use Rattle.av_filter.specs.Opening.{pends, taken}
use Rattle.av_filter.specs.Reaction.{Reaction}
use Rattle.av_filter_table.specs.Table.{Table, context_of, current, has_room, question_of, raised}
use Rattle.av_filter_table.specs.declared.pended.Pended.{Pended}
use Rattle.av_filter_table.specs.declared.question.Question.{Question}
use Rattle.av_guard.proofs.KnownLemmas.{max_zero, stream_there}
use Rattle.av_guard.proofs.LawLemmas.{opens_its_bytes}
use Rattle.av_guard.proofs.PairLemmas.{ids, key_less, keys}
use Rattle.av_guard.specs.Asking.{GivesNothing, HasQuestion, Takes, asked, class_of, opens, place_of}
use Rattle.av_guard.specs.Class.{class_at, has_verdict, is_awaited, is_busy_with}
use Rattle.av_guard.specs.Place.{Held, Missing, Spot, Unused}
use Rattle.av_guard.specs.State.{Gives, State}
use Rattle.av_guard.specs.Telling.{Waiters, told_by}
use Rattle.av_guard.specs.Waiting.{ArePaired, IsAwaited}
use Rattle.av_guard.specs.declared.class.Class.TheVariants.{Asked, Known, New}
use Rattle.av_guard.specs.declared.given.GuardOut.{GuardOut}
use Rattle.av_guard.specs.declared.waiter.Waiter.{Waiter}
use Rattle.av_store.specs.Rows.{stream_at}
use Rattle.av_store.specs.declared.stream.Stream.{Stream}

-- one who waits for a stream
record WaitsFor (m : Waiters) (s : ℕ) : Type 0 where
  number : ℕ
  waiter : Waiter
  found : at m number ≡ Some waiter
  stream : waiter.stream ≡ s

own : (k : ℕ) → is_eq (nat_cmp k k) ≡ true
own k = grind (arith, nat_tests)

other : (u k : ℕ) → u ≢ k → is_eq (nat_cmp u k) ≡ false
other u k ne = grind (arith, nat_tests, ne)

-- a number that is found is counted
counted_once : (m : Waiters) (k : ℕ) (w : Waiter) → at m k ≡ Some w → 1 ≤ times k (keys m)
counted_once m k w e = grind (arith, nat_tests, key_less m k w k e)

waits_for : (m : Waiters) (s : ℕ) → ((n : ℕ) → times n (keys m) ≤ 1) → 1 ≤ times s (map (λ (e : ℕ × Waiter). e.1.stream) m) → WaitsFor m s
waits_for [] s once some = absurd (omega (arith, some))
waits_for (e ∷ m) s once some = go (e.1.stream == s) refl some (waits_for m s)
  where
    go : (b : Bool) → (e.1.stream == s) ≡ b → 1 ≤ (if b then 1 else 0) + times s (map (λ (e : ℕ × Waiter). e.1.stream) m) → (((n : ℕ) → times n (keys m) ≤ 1) → 1 ≤ times s (map (λ (e : ℕ × Waiter). e.1.stream) m) → WaitsFor m s) → WaitsFor (e ∷ m) s
    go true is k rest = record { number = e.0; waiter = e.1; found = ap (λ b. cond b (Some e.1) (at m e.0)) (own e.0); stream = eqb-true e.1.stream s is }
    go false is k rest =
        let w = rest (λ n. omega (arith, once n)) (omega (arith, k)) in
        let apart : w.number ≢ e.0 = λ same. grind (arith, nat_tests, same, once w.number, counted_once m w.number w.waiter w.found) in
        record { number = w.number; waiter = w.waiter; found = ap (λ b. cond b (Some e.1) (at m w.number)) (other w.number e.0 apart) ∙ w.found; stream = w.stream }

-- the stream of each question has one
each_found : (qs : List Question) → Each (λ q. is_some (question_of q.stream qs) ≡ true) qs
each_found [] = tt
each_found (q ∷ qs) = (first (q.stream == q.stream) (grind (arith, nat_tests)), each_weaker (λ (k : Question). is_some (question_of k.stream qs) ≡ true) (λ (k : Question). is_some (question_of k.stream (q ∷ qs)) ≡ true) (λ k h. more (q.stream == k.stream) (question_of k.stream qs) h) qs (each_found qs))
  where
    first : (b : Bool) → b ≡ true → is_some (cond b (Some q) (question_of q.stream qs)) ≡ true
    first b is = ap (λ c. is_some (cond c (Some q) (question_of q.stream qs))) is

    more : (b : Bool) (o : Option Question) → is_some o ≡ true → is_some (cond b (Some q) o) ≡ true
    more true o h = refl
    more false o h = h

-- the question that an open waits for is of the stream of who waits for the open
question_there : (m : Waiters) (qs : List Question) (n s : ℕ) (w : Waiter) (ps : List Pended) → at m n ≡ Some w → w.stream ≡ s → Each (λ p. IsAwaited m p.held.open_id p.held.stream) ps → Each (IsAsked qs) ps → 1 ≤ times n (ids ps) → is_some (question_of s qs) ≡ true
question_there m qs n s w [] found is awaited runs some = absurd (omega (arith, some))
question_there m qs n s w (p ∷ ps) found is awaited runs some = go (p.held.open_id == n) refl some (question_there m qs n s w ps found is awaited.1 runs.1)
  where
    go : (b : Bool) → (p.held.open_id == n) ≡ b → 1 ≤ (if b then 1 else 0) + times n (ids ps) → (1 ≤ times n (ids ps) → is_some (question_of s qs) ≡ true) → is_some (question_of s qs) ≡ true
    go true e k rest =
        let q = runs.0.question in
        let here : at m n ≡ Some awaited.0.0 = subst (λ u. at m u ≡ Some awaited.0.0) (eqb-true p.held.open_id n e) awaited.0.1 in
        let same : w ≡ awaited.0.0 = cc (found, here) in
        let stream : q.stream ≡ s = runs.0.stream ∙ sym awaited.0.2 ∙ ap (λ (x : Waiter). x.stream) (sym same) ∙ is in
        subst (λ u. is_some (question_of u qs) ≡ true) stream (find_each (λ (k : Question). is_some (question_of k.stream qs) ≡ true) (λ (k : Question). same_id k.id p.question) qs q (each_found qs) runs.0.runs)
    go false e k rest = rest (omega (arith, k))

-- the stream of a content that was asked about
record AskedAt (g : State) (spot : Spot) : Type 0 where
  stream : ℕ
  held : spot ≡ Held stream
  unjudged : has_verdict g.table stream ≡ false
  awaited : is_awaited g.waiting stream ≡ true

asked_at : (g : State) (spot : Spot) → class_at g spot ≡ Asked → AskedAt g spot
asked_at g (Held s) is = go (has_verdict g.table s) (is_awaited g.waiting s) refl refl is
  where
    go : (b d : Bool) → has_verdict g.table s ≡ b → is_awaited g.waiting s ≡ d → (if b then Known else (if d then Asked else New)) ≡ Asked → AskedAt g (Held s)
    go true d e f bad = absurd cc
    go false true e f k = record { stream = s; held = refl; unjudged = e; awaited = f }
    go false false e f bad = absurd cc
asked_at g (Unused name) bad = absurd cc
asked_at g Missing bad = absurd cc

some_wait : (n : ℕ) → nat_lt 0 n ≡ true → 1 ≤ n
some_wait n is = grind (arith, nat_tests, is)

awaited_question : (t : Table) (m : Waiters) (s : ℕ) → IsCoherent t → ArePaired t.pended m → is_awaited m s ≡ true → is_some (question_of s t.questions) ≡ true
awaited_question t m s coherent p awaited =
    let w = waits_for m s (λ n. omega (arith, p.each n, p.once n)) (some_wait _ awaited) in
    question_there m t.questions w.number s w.waiter t.pended w.found w.stream p.streams coherent.asked (omega (arith, p.each w.number, counted_once m w.number w.waiter w.found))

pub asked_question : (g : State) (c : List ℕ) → IsCoherent g.table → ArePaired g.table.pended g.waiting → class_of g c ≡ Asked → HasQuestion g c
asked_question g c coherent p is =
    let a = asked_at g (place_of g c) is in
    record { stream = a.stream; held = a.held; runs = awaited_question g.table g.waiting a.stream coherent p a.awaited }

question_some : (o : Option Question) → is_some o ≡ true → (q : Question) × (o ≡ Some q)
question_some None bad = absurd cc
question_some (Some q) is = (q, refl)

verdict_none_there : (o : Option Verdict) → is_some o ≡ false → o ≡ None
verdict_none_there None is = refl
verdict_none_there (Some r) bad = absurd cc

turned : (b : Bool) → not b ≡ false → b ≡ true
turned true is = refl
turned false bad = absurd cc

joins_told : (g new : State) (s client tag : ℕ) (given : GuardOut) (x : Stream) (q : Question) → stream_at s g.volume.streams ≡ Some x → current (context_of g.table.contexts s) g.table.floor ≡ None → question_of s g.table.questions ≡ Some q → has_room g.table ≡ true → Gives given new (opens g s client tag) → GivesNothing given
unfolding filter_step told_by
joins_told g new s client tag given x q there unjudged runs room gives =
    let step : filter_step g.table g.volume (Opens s 0) ≡ pends (raised 0 g.table) (taken g.volume) s 0 q.id [] =
    opened_joined g.table g.volume s 0 x q there (ap (current (context_of g.table.contexts s)) (max_zero g.table.floor) ∙ unjudged) runs room in
    let more = with g.waiting (g.volume.opens + 1) (record { client = client; tag = tag; stream = s }) in
    record {
      told = gives.told ∙ ap (λ (k : Reaction). told_by g.clients k.table more k.answers) step;
      messages = gives.messages ∙ ap (λ (k : Reaction). k.messages) step;
    }

-- an ask of a content that was asked about, and that is not refused, waits
pub asked_waits : (old new : State) (client tag : ℕ) (c : List ℕ) (given : GuardOut) → IsCoherent old.table → ArePaired old.table.pended old.waiting → is_busy_with old (class_of old c) ≡ false → Takes old new given client tag c → class_of old c ≡ Asked → GivesNothing given
asked_waits old new client tag c given coherent p free takes is =
    let a = asked_at old (place_of old c) is in
    let x = stream_there (stream_at a.stream old.volume.streams) c (opens_its_bytes old c a.stream a.held) in
    let q = question_some (question_of a.stream old.table.questions) (awaited_question old.table old.waiting a.stream coherent p a.awaited) in
    let room : has_room old.table ≡ true = turned (has_room old.table) (sym (ap (is_busy_with old) is) ∙ free) in
    joins_told old new a.stream client tag given x.0 q.0 x.1 (verdict_none_there (current (context_of old.table.contexts a.stream) old.table.floor) a.unjudged) q.1 room
    (subst (λ k. Gives given new (asked old client tag c k)) a.held takes.1)
