-- What is told of an event's answers rests on the history.
use Rattle.std.proofs.Common.{◌≡◌, ℕ, ◌≤◌, true, false, cond, List, [], ◌∷◌, ◌++◌, Option, Some, None, if◌then◌else◌, refl, arith, ap, ◌∙◌, sym, subst, inl, inr}
use Rattle.std.proofs.lemmas.Bool.{cases_eq}
use Rattle.std.proofs.lemmas.Bool.Decides.{nat_tests}
use Rattle.std.specs.BTreeMap.{is_at}
use Rattle.std.specs.List.{AllByRecursion as Each}
use Rattle.std.specs.Ordering.{nat_cmp}
use Rattle.av_base.proofs.AmongLemmas.{among_left}
use Rattle.av_base.specs.Among.{Among}
use Rattle.av_base.specs.declared.cause.Cause.{Cause}
use Rattle.av_base.specs.declared.cause.Cause.TheVariants as cause
use Rattle.av_base.specs.declared.verdict.Verdict.{Verdict}
use Rattle.av_base.specs.declared.verdict.Verdict.TheVariants as verdict
use Rattle.av_context.specs.Contexts.{at, without}
use Rattle.av_filter.proofs.EachLemmas.{each-append, each_weaker}
use Rattle.av_filter.proofs.MapLemmas.{each-without}
use Rattle.av_filter.specs.Audit.{FilterEntry, answers_given}
use Rattle.av_filter.specs.Once.{times}
use Rattle.av_filter.specs.Verdict.{verdict_of}
use Rattle.av_numbered.proofs.MapLemmas.{at-without_other}
use Rattle.av_filter_table.specs.Table.{Table, context_of}
use Rattle.av_guard.proofs.CountLemmas.{without_none}
use Rattle.av_guard.proofs.PairLemmas.{at_none, key_less, keys}
use Rattle.av_guard.proofs.PastLemmas.{answers_more, held_more, held_stays}
use Rattle.av_guard.specs.Run.{IsFounded, IsGrantOf, RestsOn, all_held}
use Rattle.av_guard.specs.Telling.{Waiters, answered, denied_as, is_here, told_by, told_one}
use Rattle.av_guard.specs.declared.answered.Answered.{Answered}
use Rattle.av_guard.specs.declared.answered.Answered.TheVariants as told
use Rattle.av_guard.specs.Ask.{Ask}
use Rattle.av_guard.specs.declared.given.Told.{Told}
use Rattle.av_guard.specs.declared.waiter.Waiter.{Waiter}
use Rattle.av_pend.specs.Pend.{open_of}
use Rattle.av_pend.specs.declared.answer.Answer.{Answer}
use Rattle.av_pend.specs.declared.answer.Answer.TheVariants.{Granted, Unscanned, Denied}
use Rattle.av_store.specs.History.{content}

-- one waits for an ask that was taken, by a stream that was written with its content
pub record IsAsking (asks : List Ask) (history : List FilterEntry) (w : Waiter) : Type 0 where
  pub ask : Ask
  pub taken : Among ask asks
  pub client : w.client ≡ ask.client
  pub tag : w.tag ≡ ask.tag
  pub bytes : content (all_held [] history) w.stream 2 ≡ Some ask.content

-- a grant stands in the history, of generation 2, and for the stream of whoever waits for it
abbrev pub IsMeant : List FilterEntry → Waiters → Answer → Type 0
IsMeant history m (Granted n least s generation version) =
    Among (Granted n least s generation version) (answers_given history) × (generation ≡ 2) × ((w : Waiter) → at m n ≡ Some w → w.stream ≡ s)
IsMeant history m (Unscanned n s generation c) = Among (Unscanned n s generation c) (answers_given history)
IsMeant history m _ = Unit {0}

at_each : (P : Waiter → Type 0) (m : Waiters) (k : ℕ) (w : Waiter) → Each (λ e. P e.1) m → at m k ≡ Some w → P w
at_each P [] k w all h = absurd cc
at_each P (e ∷ m) k w all h =
    (elim (is_at (nat_cmp k) e.0) as (λ b. cond b (Some e.1) (at m k) ≡ Some w → P w) [
      | true ↦ λ here. let same : e.1 ≡ w = cc in subst P same all.0
      | false ↦ λ rest. at_each P m k w all.1 rest
    ]) h

fewer : (m : Waiters) (k n : ℕ) → times n (keys (without m k)) ≤ times n (keys m)
fewer m k n = go (at m k) refl
  where
    go : (o : Option Waiter) → at m k ≡ o → times n (keys (without m k)) ≤ times n (keys m)
    go None e = subst (λ x. times n (keys x) ≤ times n (keys m)) (sym (without_none m k e)) (omega arith)
    go (Some w) e = omega (arith, key_less m k w n e)

-- who is still there was there before
still_at : (m : Waiters) (k n : ℕ) (w : Waiter) → times k (keys m) ≤ 1 → at (without m k) n ≡ Some w → at m n ≡ Some w
still_at m k n w once h =
    elim (cases_eq n k) [
      | inl same ↦ go (at m k) refl (subst (λ u. at (without m k) u ≡ Some w) same h)
      | inr apart ↦ sym (at-without_other m k n apart) ∙ h
    ]
  where
    go : (o : Option Waiter) → at m k ≡ o → at (without m k) k ≡ Some w → at m n ≡ Some w
    go None e is = let none : None ≡ Some w = sym e ∙ ap (λ x. at x k) (sym (without_none m k e)) ∙ is in absurd cc
    go (Some u) e is = let gone : at (without m k) k ≡ None = at_none (without m k) k (grind (arith, nat_tests, key_less m k u k e, once)) in absurd cc

meant_less : (history : List FilterEntry) (m : Waiters) (k : ℕ) → times k (keys m) ≤ 1 → (a : Answer) → IsMeant history m a → IsMeant history (without m k) a
meant_less history m k once (Granted n least s g v) h = (h.0, h.1, λ w is. h.2 w (still_at m k n w once is))
meant_less history m k once (Unscanned n s g c) h = h
meant_less history m k once (Denied n c) h = tt

denied_rests : (history : List FilterEntry) (c : List ℕ) (why : Cause) (o : Option (ℕ × Verdict)) → RestsOn history c (denied_as why o)
denied_rests history c cause.Infected (Some (version, verdict.Infected i e)) = tt
denied_rests history c cause.Infected (Some (version, verdict.Clean)) = tt
denied_rests history c cause.Infected None = tt
denied_rests history c _ o = tt

module _ (clients : List ℕ) (t : Table) (asks : List Ask) (history : List FilterEntry) where
  rests : (a : Answer) (w : Waiter) (is : IsAsking asks history w) → (m : Waiters) → at m (open_of a) ≡ Some w → IsMeant history m a → RestsOn history is.ask.content (answered t w.stream a)
  rests (Granted n least s g v) w is m here (among, two, own) =
      record {
        open_id = n;
        least = least;
        stream = s;
        granted = among;
        once = two;
        bytes = subst (λ k. content (all_held [] history) k g ≡ Some is.ask.content) (own w here) (subst (λ k. content (all_held [] history) w.stream k ≡ Some is.ask.content) (sym two) is.bytes);
      }
  rests (Unscanned n s g c) w is m here among = record { open_id = n; stream = s; let_through = among }
  rests (Denied n c) w is m here meant = denied_rests history is.ask.content c (verdict_of (context_of t.contexts w.stream))

  one_founded : (m : Waiters) (a : Answer) → Each (λ e. IsAsking asks history e.1) m → IsMeant history m a → (o : Option Waiter) → at m (open_of a) ≡ o → Each (IsFounded asks history) (told_one clients t a o)
  one_founded m a waits meant None e = tt
  one_founded m a waits meant (Some w) e =
      let is : IsAsking asks history w = at_each (IsAsking asks history) m (open_of a) w waits e in
      let here : IsFounded asks history (record { client = w.client; tag = w.tag; answer = answered t w.stream a }) =
      record { ask = is.ask; taken = is.taken; client = is.client; tag = is.tag; rests = rests a w is m e meant } in
      elim (is_here clients w.client) as (λ b. Each (IsFounded asks history) (if b then record { client = w.client; tag = w.tag; answer = answered t w.stream a } ∷ [] else [])) [
        | true ↦ (here, tt)
        | false ↦ tt
      ]

  pub told_founded : (answers : List Answer) (m : Waiters) → Each (λ e. IsAsking asks history e.1) m → ((n : ℕ) → times n (keys m) ≤ 1) → Each (IsMeant history m) answers → Each (IsFounded asks history) (told_by clients t m answers)
  unfolding told_by
  told_founded [] m waits once meant = tt
  told_founded (a ∷ rest) m waits once meant =
      let k = open_of a in
      each-append (IsFounded asks history) (told_one clients t a (at m k)) (told_by clients t (without m k) rest) (one_founded m a waits meant.0 (at m k) refl)
      (told_founded rest (without m k) (each-without (λ e. IsAsking asks history e.1) m k waits) (λ n. omega (arith, fewer m k n, once n))
      (each_weaker (IsMeant history m) (IsMeant history (without m k)) (meant_less history m k (once k)) rest meant.1))

-- what rests on a history rests on a longer one
module _ (history : List FilterEntry) (x : FilterEntry) where
  bytes_more : (s g : ℕ) (c : List ℕ) → content (all_held [] history) s g ≡ Some c → content (all_held [] (history ++ x ∷ [])) s g ≡ Some c
  bytes_more s g c h = subst (λ hs. content hs s g ≡ Some c) (sym (held_more [] history x)) (held_stays (all_held [] history) x.event s g c h)

  grant_more : (c : List ℕ) (g v : ℕ) → IsGrantOf history c g v → IsGrantOf (history ++ x ∷ []) c g v
  grant_more c g v is = record {
    open_id = is.open_id;
    least = is.least;
    stream = is.stream;
    granted = subst (Among (Granted is.open_id is.least is.stream g v)) (sym (answers_more history x)) (among_left _ (answers_given history) x.answers is.granted);
    once = is.once;
    bytes = bytes_more is.stream g c is.bytes;
  }

  rests_more : (c : List ℕ) (a : Answered) → RestsOn history c a → RestsOn (history ++ x ∷ []) c a
  rests_more c (told.Granted g v) is = grant_more c g v is
  rests_more c (told.Infected v i e) is = tt
  rests_more c (told.Denied w) is = tt
  rests_more c (told.Unscanned g w) is = record {
    open_id = is.open_id;
    stream = is.stream;
    let_through = subst (Among (Unscanned is.open_id is.stream g w)) (sym (answers_more history x)) (among_left _ (answers_given history) x.answers is.let_through);
  }

  pub founded_more : (asks : List Ask) (t : Told) → IsFounded asks history t → IsFounded asks (history ++ x ∷ []) t
  founded_more asks t is = record { ask = is.ask; taken = is.taken; client = is.client; tag = is.tag; rests = rests_more is.ask.content t.answer is.rests }

  pub asking_more : (asks : List Ask) (w : Waiter) → IsAsking asks history w → IsAsking asks (history ++ x ∷ []) w
  asking_more asks w is = record { ask = is.ask; taken = is.taken; client = is.client; tag = is.tag; bytes = bytes_more w.stream 2 is.ask.content is.bytes }

-- and of asks that were taken, more may have been
pub founded_later : (asks later : List Ask) (history : List FilterEntry) (t : Told) → IsFounded asks history t → IsFounded (asks ++ later) history t
founded_later asks later history t is = record { ask = is.ask; taken = among_left is.ask asks later is.taken; client = is.client; tag = is.tag; rests = is.rests }

pub asking_later : (asks later : List Ask) (history : List FilterEntry) (w : Waiter) → IsAsking asks history w → IsAsking (asks ++ later) history w
asking_later asks later history w is = record { ask = is.ask; taken = among_left is.ask asks later is.taken; client = is.client; tag = is.tag; bytes = is.bytes }
