-- What holds of a guard whose calls are known, with the history of its filter, and after one event more.
use Rattle.std.proofs.Common.{◌≡◌, ℕ, ◌+◌, ◌≤◌, List, [], ◌∷◌, ◌++◌, None, refl, arith, ap, ◌∙◌, sym, subst}
use Rattle.std.specs.List.{AllByRecursion as Each}
use Rattle.std.specs.Ordering.{match_ordering, nat_cmp}
use Rattle.std.specs.declared.cmp.Ordering.TheVariants.{Less, Equal, Greater}
use Rattle.av_base.proofs.AmongLemmas.{among_right, each_self}
use Rattle.av_base.specs.Among.{Among}
use Rattle.av_context.specs.Contexts.{at, with, without}
use Rattle.av_filter.proofs.BoundLemmas.{leads_to}
use Rattle.av_filter.proofs.CountLemmas.{opens_after}
use Rattle.av_filter.proofs.EachLemmas.{each-append, each_weaker, each_both}
use Rattle.av_filter.proofs.FitLemmas.{event_fits}
use Rattle.av_filter.proofs.MapLemmas.{each-without}
use Rattle.av_filter.specs.Audit.{FilterEntry, answers_given}
use Rattle.av_filter.specs.Conduct.{FilterEvent, Opens, filter_refusal, filter_step}
use Rattle.av_filter.specs.Fit.{Stands}
use Rattle.av_filter.specs.Once.{once_up_to, times}
use Rattle.av_filter.specs.Reaction.{Reaction}
use Rattle.av_filter_table.specs.Table.{Table}
use Rattle.av_frame.specs.Message.{Letter}
use Rattle.av_guard.proofs.PairLemmas.{at_new, ids, key_more, keys, paired, stays}
use Rattle.av_guard.proofs.PastLemmas.{Past, answers_more, entry_of, past_more}
use Rattle.av_guard.proofs.SoundLemmas.{at_most, number_free, one_more, still_awaited, written_same}
use Rattle.av_guard.proofs.StayLemmas.{Comes, IsOf}
use Rattle.av_guard.proofs.TellLemmas.{IsAsking, IsMeant, asking_later, asking_more, founded_later, founded_more, told_founded}
use Rattle.av_guard.specs.Asking.{opens}
use Rattle.av_guard.specs.Run.{IsFounded}
use Rattle.av_guard.specs.State.{State, happens}
use Rattle.av_guard.specs.Telling.{Waiters, left_by}
use Rattle.av_guard.specs.Waiting.{ArePaired, IsAwaited}
use Rattle.av_guard.specs.Written.{AreWritten}
use Rattle.av_guard.specs.Ask.{Ask}
use Rattle.av_guard.specs.declared.given.Told.{Told}
use Rattle.av_guard.specs.declared.waiter.Waiter.{Waiter}
use Rattle.av_pend.specs.Pend.{open_of}
use Rattle.av_pend.specs.declared.answer.Answer.{Answer}
use Rattle.av_pend.specs.declared.answer.Answer.TheVariants.{Granted, Unscanned, Denied}
use Rattle.av_store.specs.Store.{Store}

-- the asks that were taken, what was told, and what was sent
pub record Story (t0 : Table) (v0 : Store) (asks : List Ask) (told : List Told) (sent : List Letter) (history : List FilterEntry) (g : State) : Type 0 where
  pub past : Past t0 v0 g.table g.volume sent history
  pub stands : Stands g.table g.volume
  pub written : AreWritten g.key g.volume.streams
  pub paired : ArePaired g.table.pended g.waiting
  pub waiting : Each (λ e. IsAsking asks history e.1) g.waiting
  pub founded : Each (IsFounded asks history) told

-- after asks that were taken later
pub later : (t0 : Table) (v0 : Store) (asks more : List Ask) (told : List Told) (sent : List Letter) (history : List FilterEntry) (g : State) → Story t0 v0 asks told sent history g → ((a : Ask) → Among a asks → Among a (asks ++ more)) → Story t0 v0 (asks ++ more) told sent history g
later t0 v0 asks more told sent history g s among = record {
  past = s.past;
  stands = s.stands;
  written = s.written;
  paired = s.paired;
  waiting = each_weaker (λ e. IsAsking asks history e.1) (λ e. IsAsking (asks ++ more) history e.1) (λ e h. asking_later asks more history e.1 h) g.waiting s.waiting;
  founded = each_weaker (IsFounded asks history) (IsFounded (asks ++ more) history) (founded_later asks more history) told s.founded;
}

-- who waits after answers waited before
left_each : (P : ℕ × Waiter → Type 0) (answers : List Answer) (m : Waiters) → Each P m → Each P (left_by m answers)
unfolding left_by
left_each P [] m all = all
left_each P (a ∷ rest) m all = left_each P rest (without m (open_of a)) (each-without P m (open_of a) all)

with_each : (P : Waiter → Type 0) (m : Waiters) (k : ℕ) (w : Waiter) → Each (λ e. P e.1) m → P w → Each (λ e. P e.1) (with m k w)
with_each P [] k w all h = (h, tt)
with_each P (e ∷ m) k w all h =
    elim (nat_cmp k e.0) as (λ o. Each (λ e. P e.1) (match_ordering o ((k, w) ∷ e ∷ m) ((e.0, w) ∷ m) (e ∷ with m k w))) [
      | Less ↦ (h, all)
      | Equal ↦ (h, all.1)
      | Greater ↦ (all.0, with_each P m k w all.1 h)
    ]

-- an event, of a guard in which these wait as it comes
module _ (t0 : Table) (v0 : Store) (asks : List Ask) (told : List Told) (sent : List Letter) (history : List FilterEntry) (g : State) (e : FilterEvent)
    (past : Past t0 v0 g.table g.volume sent history) (stands : Stands g.table g.volume) (written : AreWritten g.key g.volume.streams)
    (counts : (n : ℕ) → times n (keys g.waiting) + once_up_to g.volume.opens n ≡ times n (ids g.table.pended) + once_up_to (opens_after g.volume.opens e) n)
    (once : (n : ℕ) → times n (keys g.waiting) ≤ 1)
    (streams : Each (λ p. IsAwaited g.waiting p.held.open_id p.held.stream) g.table.pended)
    (comes : Comes (IsAwaited g.waiting) 2 g.volume e)
    (waiting : Each (λ e. IsAsking asks history e.1) g.waiting) (founded : Each (IsFounded asks history) told)
    (ok : filter_refusal g.table g.volume e ≡ None) (stay : AreWritten g.key (filter_step g.table g.volume e).volume.streams) where
  abbrev pub x : FilterEntry
  x = entry_of g.table g.volume e

  abbrev pub longer : List FilterEntry
  longer = history ++ x ∷ []

  abbrev pub r : Reaction
  r = filter_step g.table g.volume e

  waits_on : Each (λ e. IsAsking asks longer e.1) g.waiting
  waits_on = each_weaker (λ e. IsAsking asks history e.1) (λ e. IsAsking asks longer e.1) (λ e h. asking_more history x asks e.1 h) g.waiting waiting

  meant : (a : Answer) → IsOf (IsAwaited g.waiting) 2 a → Among a r.answers → IsMeant longer g.waiting a
  meant (Granted n least s gen v) of among = (
    subst (Among (Granted n least s gen v)) (sym (answers_more history x)) (among_right (Granted n least s gen v) (answers_given history) r.answers among),
    of.1,
    λ w is. let same : of.0.0 ≡ w = cc (of.0.1, is) in sym (ap (λ (y : Waiter). y.stream) same) ∙ of.0.2,
  )
  meant (Unscanned n s gen c) of among = subst (Among (Unscanned n s gen c)) (sym (answers_more history x)) (among_right (Unscanned n s gen c) (answers_given history) r.answers among)
  meant (Denied n c) of among = tt

  pub event_story : Story t0 v0 asks (told ++ (happens g e).told) (sent ++ (happens g e).messages) longer (happens g e).state
  event_story = record {
    past = past_more t0 v0 g.table g.volume sent history e past ok;
    stands = event_fits g.table g.volume e stands ok;
    written = stay;
    paired = paired g.key g.table g.volume g.waiting e stands.fits written counts once streams comes;
    waiting = left_each (λ e. IsAsking asks longer e.1) r.answers g.waiting waits_on;
    founded =
        each-append (IsFounded asks longer) told (happens g e).told (each_weaker (IsFounded asks history) (IsFounded asks longer) (founded_more history x asks) told founded)
        (told_founded g.clients r.table asks longer r.answers g.waiting waits_on once
        (each_both (IsOf (IsAwaited g.waiting) 2) (λ a. Among a r.answers) (IsMeant longer g.waiting) meant r.answers (stays g.key g.table g.volume g.waiting e stands.fits written counts once streams comes).answers (each_self r.answers)));
  }

-- an event that submits no open
pub quiet_story : (t0 : Table) (v0 : Store) (asks : List Ask) (told : List Told) (sent : List Letter) (history : List FilterEntry) (g : State) (e : FilterEvent) → Story t0 v0 asks told sent history g → opens_after g.volume.opens e ≡ g.volume.opens
    → Comes (IsAwaited g.waiting) 2 g.volume e → filter_refusal g.table g.volume e ≡ None → AreWritten g.key (filter_step g.table g.volume e).volume.streams
    → Story t0 v0 asks (told ++ (happens g e).told) (sent ++ (happens g e).messages) (history ++ entry_of g.table g.volume e ∷ []) (happens g e).state
quiet_story t0 v0 asks told sent history g e s none comes ok stay =
    event_story t0 v0 asks told sent history g e s.past s.stands s.written (λ n. omega (arith, s.paired.each n, ap (λ k. once_up_to k n) none)) (λ n. omega (arith, s.paired.each n, s.paired.once n)) s.paired.streams comes s.waiting s.founded ok stay

-- an open of a stream that has the content of an ask that was taken
pub opens_story : (t0 : Table) (v0 : Store) (asks : List Ask) (told : List Told) (sent : List Letter) (history : List FilterEntry) (g : State) (w : Waiter) → Story t0 v0 asks told sent history g → IsAsking asks history w → filter_refusal g.table g.volume (Opens w.stream 0) ≡ None
    → (h : List FilterEntry) × Story t0 v0 asks (told ++ (opens g w.stream w.client w.tag).told) (sent ++ (opens g w.stream w.client w.tag).messages) h (opens g w.stream w.client w.tag).state
opens_story t0 v0 asks told sent history g w s is ok =
    let k = g.volume.opens + 1 in
    let e = Opens w.stream 0 in
    let now : State = record g { waiting = with g.waiting k w } in
    let away : at g.waiting k ≡ None = number_free g.table g.volume g.waiting s.stands.fits s.paired in
    let streams : (filter_step g.table g.volume e).volume.streams ≡ g.volume.streams = ap (λ (u : Store). u.streams) (leads_to g.table g.volume e) in (
      history ++ entry_of g.table g.volume e ∷ [],
      event_story t0 v0 asks told sent history now e s.past s.stands s.written (λ n. omega (arith, key_more g.waiting k w n away, s.paired.each n, one_more g.volume.opens n))
          (λ n. at_most g.table g.volume g.waiting w n s.stands.fits s.paired) (still_awaited g.table g.volume g.waiting w s.stands.fits s.paired g.table.pended s.stands.fits.taken s.paired.streams) (w, at_new g.waiting k w away, refl)
          (with_each (λ u. IsAsking asks history u) g.waiting k w s.waiting is) s.founded ok (written_same _ _ _ streams s.written),
    )
