-- What an event of the filter does to the opens that it holds: each keeps its number and its stream, and each answer is for one of
-- them, or for the open that comes.
use Rattle.std.proofs.Common.{◌≡◌, ℕ, ◌+◌, not, ◌&&◌, List, [], ◌∷◌, map, filter, Option, Some, None, if◌then◌else◌, nat_le, true, false, subst, sym, refl}
use Rattle.std.specs.List.{AllByRecursion as Each}
use Rattle.std.proofs.lemmas.Bool.{cond_both}
use Rattle.av_base.specs.declared.cause.Cause.{Cause}
use Rattle.av_base.specs.declared.cause.Cause.TheVariants.{PortDisconnected, Unsettled, FilterRestart}
use Rattle.av_base.specs.declared.message_id.MessageId.{MessageId}
use Rattle.av_base.specs.declared.mode.Mode.{Mode}
use Rattle.av_base.specs.declared.mode.Mode.TheVariants.{FailClosed, FailOpen}
use Rattle.av_base.specs.Port.{same_port}
use Rattle.av_base.specs.declared.port.Port.{Port}
use Rattle.av_base.specs.declared.verdict.Verdict.{Verdict}
use Rattle.av_base.specs.declared.verdict.Verdict.TheVariants.{Clean, Infected}
use Rattle.av_context.specs.declared.context_state.ContextState.{ContextState}
use Rattle.av_context.specs.declared.context_state.ContextState.TheVariants as context
use Rattle.av_filter.proofs.EachLemmas.{each-append, each-filter, each-map, find_each}
use Rattle.av_filter.proofs.RowLemmas.{again_row, row_of}
use Rattle.av_filter.specs.Again.{again, ends}
use Rattle.av_filter.specs.Conduct.{FilterEvent, Opens, again_each, filter_step, in_order, loses_all, moves, placed, restarts}
use Rattle.av_filter.specs.Opening.{new_open, taken}
use Rattle.av_filter.specs.Rows
use Rattle.av_filter.specs.Rows.{AgainRow, OpenRow, Row, without}
use Rattle.av_filter.specs.Reaction.{Reaction}
use Rattle.av_filter.specs.declared.note.Note.{Note}
use Rattle.av_filter.specs.declared.note.Note.TheVariants.{Quiet}
use Rattle.av_filter_table.specs.Answering.{by_mode, judged, refused_now}
use Rattle.av_filter_table.specs.Asking.{again_cause, again_under, asks, ended, is_lost, moved}
use Rattle.av_filter_table.specs.Ports.{least_port}
use Rattle.av_filter_table.specs.Table.{Table, next_id, on_port, raised, waits_for}
use Rattle.av_filter_table.specs.declared.pended.Pended.{Pended}
use Rattle.av_filter_table.specs.declared.question.Question.{Question}
use Rattle.av_base.specs.MessageId.{same_id}
use Rattle.av_frame.specs.Message.{Letter}
use Rattle.av_pend.specs.Pend.{open_of, refused}
use Rattle.av_pend.specs.Waiting.{Waiting}
use Rattle.av_pend.specs.declared.answer.Answer.{Answer}
use Rattle.av_pend.specs.declared.answer.Answer.TheVariants.{Granted, Unscanned, Denied}
use Rattle.av_store.specs.Rows.{stream_at}
use Rattle.av_store.specs.Store.{Store}
use Rattle.av_store.specs.declared.stream.Stream.{Stream}

-- Q: what is known of the number and the stream of each open; g: the generation of every stream and question
module _ (Q : ℕ → ℕ → Type 0) (g : ℕ) where
  abbrev pub Holds : Pended → Type 0
  Holds p = Q p.held.open_id p.held.stream

  abbrev pub IsOf : Answer → Type 0
  IsOf (Granted n least s generation version) = Q n s × (generation ≡ g)
  IsOf (Unscanned n s generation c) = Q n s
  IsOf (Denied n c) = Unit {0}

  pub record Stays (r : Reaction) : Type 0 where
    pub pended : Each Holds r.table.pended
    pub answers : Each IsOf r.answers

  refused_of : (m : Mode) (generation : ℕ) (c : Cause) (w : Waiting) → Q w.open_id w.stream → IsOf (refused m generation c w)
  refused_of FailClosed generation c w q = tt
  refused_of FailOpen generation c w q = q

  judged_of : (r : Verdict) (generation version : ℕ) (w : Waiting) → Q w.open_id w.stream → generation ≡ g → IsOf (judged r generation version w)
  judged_of Clean generation version w q e = (q, e)
  judged_of (Infected i end_at) generation version w q e = tt

  moved_holds : (old new : MessageId) (p : Pended) → Holds p → Holds (moved old new p)
  moved_holds old new p h = elim (waits_for old p) as (λ b. Holds (if b then again_under new p else p)) [ true ↦ h | false ↦ h ]

  ended_stays : (t : Table) (v : Store) (q : Question) (c : Option ContextState) (f : Pended → Answer) (ms : List Letter) (note : Note) → Each Holds t.pended → ((p : Pended) → Holds p → IsOf (f p))
      → Stays (record { table = ended t q c; volume = v; answers = map f (filter (waits_for q.id) t.pended); messages = ms; note = note })
  unfolding ended
  ended_stays t v q c f ms note held h = record {
    pended = each-filter Holds (λ p. not (waits_for q.id p)) t.pended held;
    answers = each-map IsOf Holds f h (filter (waits_for q.id) t.pended) (each-filter Holds (waits_for q.id) t.pended held);
  }

  again_stays : {t : Table} {v : Store} {q : Question} {early : List Letter} {o : Option Port} {r : Reaction} → AgainRow o t v q early r → Each Holds t.pended → Stays r
  unfolding ends asks
  again_stays {t} {v} {q} {early} (Rows.over why) held =
      ended_stays t v q (Some context.Modified) (λ p. refused_now t v (again_cause p) p) early Quiet held (λ p h. refused_of t.mode _ _ p.held h)
  again_stays {t} {v} {q} (Rows.anew port to left) held = record {
    pended =
        each-map Holds Holds (moved q.id (next_id t)) (moved_holds q.id (next_id t)) (filter (λ p. not (is_lost q.id p)) t.pended)
        (each-filter Holds (λ p. not (is_lost q.id p)) t.pended held);
    answers =
        each-map IsOf Holds (refused_now t v Unsettled) (λ p h. refused_of t.mode _ _ p.held h) (filter (is_lost q.id) t.pended)
        (each-filter Holds (is_lost q.id) t.pended held);
  }

  still : (r : Reaction) → Each Holds r.table.pended → r.answers ≡ [] → Stays r
  still r held none = record { pended = held; answers = subst (Each IsOf) (sym none) tt }

  -- an open that comes
  module _ (t : Table) (u : Store) (held : Each Holds t.pended) (is : (s : ℕ) (x : Stream) → stream_at s u.streams ≡ Some x → x.generation ≡ g) where
    open_stays : {s least : ℕ} {r : Reaction} → Q (u.opens + 1) s → OpenRow t (taken u) s least r → Stays r
    unfolding asks
    open_stays new (Rows.no_stream at) = record { pended = held; answers = (tt, tt) }
    open_stays {s} {least} new (Rows.known x r at known) = record { pended = held; answers = (judged_of r x.generation _ (new_open (taken u) s least) new (is s x at), tt) }
    open_stays {s} {least} new (Rows.hindered x c at why) = record { pended = held; answers = (refused_of t.mode _ c (new_open (taken u) s least) new, tt) }
    open_stays {s} {least} new (Rows.cached x e at none found) = record { pended = held; answers = (judged_of e.verdict x.generation _ (new_open (taken u) s least) new (is s x at), tt) }
    open_stays new _ = record { pended = each-append Holds t.pended _ held (new, tt); answers = tt }

  -- questions that are asked again one after the other
  each_stays : (v : Store) (qs : List Question) (t : Table) → Each Holds t.pended → Stays (again_each t v qs)
  unfolding again_each
  each_stays v [] t held = still _ held refl
  each_stays v (q ∷ qs) t held =
      let first = again_stays (again_row (least_port t.connected) t v q []) held in
      let rest = each_stays v qs (again t v q []).table first.pended in
      record { pended = rest.pended; answers = each-append IsOf (again t v q []).answers _ first.answers rest.answers }

  -- answers in another order
  placed_of : (a : Answer) (xs : List Answer) → IsOf a → Each IsOf xs → Each IsOf (placed a xs)
  placed_of a [] is all = (is, tt)
  placed_of a (b ∷ xs) is all = cond_both (nat_le (open_of a) (open_of b)) _ _ (Each IsOf) (λ e. (is, all)) (λ e. (all.0, placed_of a xs is all.1))

  order_of : (xs : List Answer) → Each IsOf xs → Each IsOf (in_order xs)
  order_of [] all = tt
  order_of (a ∷ xs) all = placed_of a (in_order xs) all.0 (order_of xs all.1)

  -- all opens are answered
  all_refused : (t : Table) (v : Store) (c : Cause) → Each Holds t.pended → Each IsOf (by_mode t v c t.pended)
  all_refused t v c held = each-map IsOf Holds (refused_now t v c) (λ p h. refused_of t.mode _ _ p.held h) t.pended held

  -- the open that an event submits
  abbrev pub Comes : Store → FilterEvent → Type 0
  Comes v (Opens s least) = Q (v.opens + 1) s
  Comes v _ = Unit {0}

  module _ (t : Table) (v : Store) (held : Each Holds t.pended) (qs : Each (λ q. q.generation ≡ g) t.questions) (ss : (s : ℕ) (x : Stream) → stream_at s v.streams ≡ Some x → x.generation ≡ g) where
    row_stays : {e : FilterEvent} {r : Reaction} → Row t v e r → Comes v e → Stays r
    unfolding asks loses_all moves restarts
    row_stays (Rows.opens s least r row) new = open_stays (raised least t) v held ss new row
    row_stays (Rows.outdated c s q is at) new = again_stays (again_row _ t _ q _) held
    row_stays (Rows.gone s q at) new = ended_stays t _ q None _ _ Quiet held (λ p h. tt)
    row_stays (Rows.failed port id why q at) new = ended_stays t v q _ _ [] Quiet held (λ p h. refused_of t.mode _ _ p.held h)
    row_stays (Rows.stale port id version r q at old) new = again_stays (again_row _ t v q []) held
    row_stays (Rows.replied port id version r q at up) new =
        let same = find_each (λ k. k.generation ≡ g) (λ k. same_id k.id id && same_port k.port port) t.questions q qs at in
        let b = ended_stays t v q (Some (context.Judged version r)) (λ p. judged r q.generation version p.held) [] Quiet held (λ p h. judged_of r q.generation version p.held h same) in
        record { pended = b.pended; answers = b.answers }
    row_stays (Rows.timed_out seq q at) new = ended_stays t v q _ _ _ Quiet held (λ p h. refused_of t.mode _ _ p.held h)
    row_stays (Rows.moved port other left) new =
        let each = each_stays v (on_port port t.questions) (without t port) held in
        record { pended = each.pended; answers = order_of (again_each (without t port) v (on_port port t.questions)).answers each.answers }
    row_stays (Rows.lost port none) new = record { pended = tt; answers = all_refused t v PortDisconnected held }
    row_stays Rows.restarted new = record { pended = tt; answers = all_refused t v FilterRestart held }
    row_stays _ new = still _ held refl

    pub event_stays : (e : FilterEvent) → Comes v e → Stays (filter_step t v e)
    event_stays e new = row_stays (row_of t v e) new
