-- Each open is pended or answered, once: what each event of the filter does to the counts.
use Rattle.std.proofs.Common.{◌≡◌, ℕ, ◌+◌, true, false, not, List, [], ◌∷◌, map, filter, Option, Some, None, if◌then◌else◌, ◌==◌, nat_le, refl, ap, ◌∙◌, arith}
use Rattle.std.proofs.lemmas.Bool.{cond_both}
use Rattle.std.proofs.lemmas.Bool.Decides.{nat_tests}
use Rattle.av_base.specs.declared.cause.Cause.{Cause}
use Rattle.av_base.specs.declared.cause.Cause.TheVariants.{PortDisconnected, Unsettled, FilterRestart}
use Rattle.av_base.specs.declared.message_id.MessageId.{MessageId}
use Rattle.av_base.specs.declared.mode.Mode.{Mode}
use Rattle.av_base.specs.declared.mode.Mode.TheVariants.{FailClosed, FailOpen}
use Rattle.av_base.specs.declared.port.Port.{Port}
use Rattle.av_base.specs.declared.verdict.Verdict.{Verdict}
use Rattle.av_base.specs.declared.verdict.Verdict.TheVariants.{Clean, Infected}
use Rattle.av_context.specs.declared.context_state.ContextState.{ContextState}
use Rattle.av_context.specs.declared.context_state.ContextState.TheVariants as context
use Rattle.av_filter.proofs.EachLemmas.{map_same}
use Rattle.av_filter.proofs.RowLemmas.{again_row, row_of}
use Rattle.av_filter.proofs.TimesLemmas.{times-parts, times_map-append}
use Rattle.av_filter.proofs.VolumeLemmas.{changed_same}
use Rattle.av_filter.specs.Again.{again, ends}
use Rattle.av_filter.specs.Changing.{changed_volume}
use Rattle.av_filter.specs.Conduct.{FilterEvent, Opens, again_each, filter_step, in_order, loses_all, moves, placed, restarts}
use Rattle.av_filter.specs.Once.{once_up_to, times}
use Rattle.av_filter.specs.Opening.{answers_with, new_open, pends, taken}
use Rattle.av_filter.specs.Reaction.{Reaction}
use Rattle.av_filter.specs.Rows
use Rattle.av_filter.specs.Rows.{AgainRow, OpenRow, Row, without}
use Rattle.av_filter.specs.declared.note.Note.{Note}
use Rattle.av_filter.specs.declared.note.Note.TheVariants.{Quiet}
use Rattle.av_filter_table.specs.Answering.{by_mode, judged, refused_now}
use Rattle.av_filter_table.specs.Asking.{again_cause, again_under, asks, ended, is_lost, moved}
use Rattle.av_filter_table.specs.Ports.{least_port}
use Rattle.av_filter_table.specs.Table.{Table, next_id, on_port, raised, waits_for}
use Rattle.av_filter_table.specs.declared.pended.Pended.{Pended}
use Rattle.av_filter_table.specs.declared.question.Question.{Question}
use Rattle.av_frame.specs.Message.{Letter}
use Rattle.av_pend.specs.Pend.{open_of, refused}
use Rattle.av_pend.specs.Waiting.{Waiting}
use Rattle.av_pend.specs.declared.answer.Answer.{Answer}
use Rattle.av_store.specs.Files.{Change}
use Rattle.av_store.specs.Store.{Store}

-- the number of a held open
abbrev pub id_of : Pended → ℕ
id_of p = p.held.open_id

-- the opens that leave the table are those that are answered; k: how many were submitted by then
pub record Balanced (t : Table) (v : Store) (k : ℕ) (r : Reaction) : Type 0 where
  pub kept : (n : ℕ) → times n (map id_of r.table.pended) + times n (map open_of r.answers) + once_up_to v.opens n ≡ times n (map id_of t.pended) + once_up_to k n
  pub opens : r.volume.opens ≡ k

pub open_of-refused : (m : Mode) (g : ℕ) (c : Cause) (p : Waiting) → open_of (refused m g c p) ≡ p.open_id
open_of-refused FailClosed g c p = refl
open_of-refused FailOpen g c p = refl

pub open_of-judged : (r : Verdict) (g v : ℕ) (p : Waiting) → open_of (judged r g v p) ≡ p.open_id
open_of-judged Clean g v p = refl
open_of-judged (Infected i e) g v p = refl

-- answers to a list of opens are for these opens
pub answers_for : (f : Pended → Answer) → ((p : Pended) → open_of (f p) ≡ p.held.open_id) → (ps : List Pended) → map open_of (map f ps) ≡ map id_of ps
answers_for f h ps = map_same open_of f id_of h ps

moved_id : (old new : MessageId) (p : Pended) → id_of (moved old new p) ≡ id_of p
moved_id old new p = elim (waits_for old p) as (λ b. id_of (if b then again_under new p else p) ≡ id_of p) [ true ↦ refl | false ↦ refl ]

-- a question that ends with all its opens answered
pub ended_balanced : (t : Table) (v : Store) (q : Question) (c : Option ContextState) (f : Pended → Answer) (ms : List Letter) (note : Note) → ((p : Pended) → open_of (f p) ≡ p.held.open_id)
    → Balanced t v v.opens (record { table = ended t q c; volume = v; answers = map f (filter (waits_for q.id) t.pended); messages = ms; note = note })
unfolding ended
ended_balanced t v q c f ms note h = record {
  kept = λ n. omega (arith, times-parts id_of (waits_for q.id) n t.pended, ap (times n) (answers_for f h (filter (waits_for q.id) t.pended)));
  opens = refl;
}

again_balanced : {o : Option Port} {t : Table} {v : Store} {q : Question} {early : List Letter} {r : Reaction} → AgainRow o t v q early r → Balanced t v v.opens r
unfolding ends asks
again_balanced {o} {t} {v} {q} {early} (Rows.over why) = ended_balanced t v q (Some context.Modified) (λ p. refused_now t v (again_cause p) p) early Quiet (λ p. open_of-refused t.mode _ _ _)
again_balanced {o} {t} {v} {q} {early} (Rows.anew port to left) = record {
  kept = λ n.
      omega (
        arith,
        times-parts id_of (is_lost q.id) n t.pended,
        ap (times n) (answers_for (refused_now t v Unsettled) (λ p. open_of-refused t.mode _ _ _) (filter (is_lost q.id) t.pended)),
        ap (times n) (map_same id_of (moved q.id (next_id t)) id_of (moved_id q.id (next_id t)) (filter (λ p. not (is_lost q.id p)) t.pended)),
      );
  opens = refl;
}

-- nothing answered, and the same opens pended
pub still : (t : Table) (v : Store) (r : Reaction) → r.table.pended ≡ t.pended → r.answers ≡ [] → r.volume.opens ≡ v.opens → Balanced t v v.opens r
still t v r same none opens = record { kept = λ n. omega (arith, ap (λ ps. times n (map id_of ps)) same, ap (λ xs. times n (map open_of xs)) none); opens = opens }

-- one open more
next_once : (k n : ℕ) → once_up_to (k + 1) n ≡ once_up_to k n + (if k + 1 == n then 1 else 0)
next_once k n = grind (arith, nat_tests)

pub answered_balanced : (t t' : Table) (v : Store) (a : Answer) → t'.pended ≡ t.pended → open_of a ≡ v.opens + 1 → Balanced t v (v.opens + 1) (answers_with t' (taken v) a)
answered_balanced t t' v a same is = record {
  kept = λ n. omega (arith, next_once v.opens n, ap (λ ps. times n (map id_of ps)) same, ap (λ k. times n (k ∷ [])) is);
  opens = refl;
}

pub pended_balanced : (t t' : Table) (v : Store) (s least : ℕ) (id : MessageId) (ms : List Letter) → t'.pended ≡ t.pended → Balanced t v (v.opens + 1) (pends t' (taken v) s least id ms)
pended_balanced t t' v s least id ms same = record {
  kept = λ n. omega (arith, next_once v.opens n, times_map-append id_of n t'.pended (record { question = id; held = new_open (taken v) s least } ∷ []), ap (λ ps. times n (map id_of ps)) same);
  opens = refl;
}

-- an open
open_balanced : (t : Table) (u : Store) {s least : ℕ} {r : Reaction} → OpenRow t (taken u) s least r → Balanced t u (u.opens + 1) r
unfolding asks
open_balanced t u (Rows.no_stream at) = answered_balanced t t u _ refl refl
open_balanced t u (Rows.known x r at known) = answered_balanced t t u _ refl (open_of-judged r _ _ _)
open_balanced t u (Rows.hindered x c at why) = answered_balanced t t u _ refl (open_of-refused t.mode _ _ _)
open_balanced t u (Rows.cached x e at none found) = answered_balanced t _ u _ refl (open_of-judged e.verdict _ _ _)
open_balanced t u _ = pended_balanced t _ u _ _ _ _ refl

-- a change of the volume takes no open number
changed : (t : Table) (u : Store) (c : Change) (r : Reaction) → Balanced t (changed_volume u c) (changed_volume u c).opens r → Balanced t u u.opens r
changed t u c r b =
    let same = (changed_same u c).opens in record { kept = λ n. omega (arith, b.kept n, ap (λ k. once_up_to k n) same); opens = b.opens ∙ same }

-- all opens are answered
all_kept : (t : Table) (v : Store) (c : Cause) (n : ℕ) → 0 + times n (map open_of (by_mode t v c t.pended)) + once_up_to v.opens n ≡ times n (map id_of t.pended) + once_up_to v.opens n
all_kept t v c n = omega (arith, ap (times n) (answers_for (refused_now t v c) (λ p. open_of-refused t.mode _ _ _) t.pended))

-- one reaction behind another
pub each_balanced : (v : Store) (qs : List Question) (t : Table) → Balanced t v v.opens (again_each t v qs)
unfolding again_each
each_balanced v [] t = still t v _ refl refl refl
each_balanced v (q ∷ qs) t =
    let r : Reaction = again t v q [] in
    let first : Balanced t v v.opens r = again_balanced (again_row (least_port t.connected) t v q []) in
    let rest : Balanced r.table v v.opens (again_each r.table v qs) = each_balanced v qs r.table in
    record {
      kept = λ n. omega (arith, first.kept n, rest.kept n, times_map-append open_of n r.answers (again_each r.table v qs).answers, ap (λ k. once_up_to k n) first.opens);
      opens = refl;
    }

placed_times : (n : ℕ) (a : Answer) (xs : List Answer) → times n (map open_of (placed a xs)) ≡ times n (map open_of (a ∷ xs))
placed_times n a [] = refl
placed_times n a (b ∷ xs) = cond_both (nat_le (open_of a) (open_of b)) _ _ (λ (ys : List Answer). times n (map open_of ys) ≡ times n (map open_of (a ∷ b ∷ xs))) (λ e. refl) (λ e. omega (arith, placed_times n a xs))

pub order_times : (n : ℕ) (xs : List Answer) → times n (map open_of (in_order xs)) ≡ times n (map open_of xs)
order_times n [] = refl
order_times n (a ∷ xs) = omega (arith, placed_times n a (in_order xs), order_times n xs)

-- how many opens were submitted after an event
abbrev pub opens_after : ℕ → FilterEvent → ℕ
opens_after k (Opens s least) = k + 1
opens_after k _ = k

row_balanced : {t : Table} {v : Store} {e : FilterEvent} {r : Reaction} → Row t v e r → Balanced t v (opens_after v.opens e) r
unfolding asks loses_all restarts moves
row_balanced {t} {v} (Rows.opens s least r row) = let b = open_balanced (raised least t) v row in record { kept = b.kept; opens = b.opens }
row_balanced {t} {v} (Rows.created name) = changed t v _ _ (still t _ _ refl refl refl)
row_balanced {t} {v} (Rows.rewritten c s is at) = changed t v c _ (still t _ _ refl refl refl)
row_balanced {t} {v} (Rows.outdated c s q is at) = changed t v c _ (again_balanced (again_row _ t _ q _))
row_balanced {t} {v} (Rows.removed s at) = changed t v _ _ (still t _ _ refl refl refl)
row_balanced {t} {v} (Rows.gone s q at) = changed t v _ _ (ended_balanced t _ q None _ _ Quiet (λ p. refl))
row_balanced {t} {v} (Rows.stale port id version r q at old) = again_balanced (again_row _ t v q [])
row_balanced {t} {v} (Rows.failed port id why q at) = ended_balanced t v q _ _ [] Quiet (λ p. open_of-refused t.mode _ _ _)
row_balanced {t} {v} (Rows.replied port id version r q at up) =
    let b = ended_balanced t v q (Some (context.Judged version r)) (λ p. judged r q.generation version p.held) [] Quiet (λ p. open_of-judged r _ _ _) in
    record { kept = b.kept; opens = b.opens }
row_balanced {t} {v} (Rows.timed_out seq q at) = ended_balanced t v q _ _ _ Quiet (λ p. open_of-refused t.mode _ _ _)
row_balanced {t} {v} (Rows.moved port other left) =
    let b = each_balanced v (on_port port t.questions) (without t port) in
    record { kept = λ n. omega (arith, b.kept n, order_times n (again_each (without t port) v (on_port port t.questions)).answers); opens = refl }
row_balanced {t} {v} (Rows.lost port none) = record { kept = all_kept t v PortDisconnected; opens = refl }
row_balanced {t} {v} Rows.restarted = record { kept = all_kept t v FilterRestart; opens = refl }
row_balanced {t} {v} _ = still t v _ refl refl refl

pub filter_balanced : (t : Table) (v : Store) (e : FilterEvent) → Balanced t v (opens_after v.opens e) (filter_step t v e)
filter_balanced t v e = row_balanced (row_of t v e)
