-- What an event leaves of what is counted: one walk over the filter's conduct, and one over the service's.
use Rattle.std.proofs.Common.{◌∙◌, Bool, true, false, find, if◌then◌else◌, filter, ◌≡◌, ℕ, ◌+◌, ◌≤◌, not}
use Rattle.std.proofs.Common.{List, [], ◌∷◌, ◌++◌, length, Option, Some, refl, arith, length-append}
use Rattle.std.proofs.lemmas.List.Filters.{length-filter_both}
use Rattle.std.specs.List.{AllByRecursion as Each}
use Rattle.av_base.specs.declared.message_id.MessageId.{MessageId}
use Rattle.av_base.specs.MessageId.{same_id}
use Rattle.av_base.specs.Port.{same_port}
use Rattle.av_base.specs.declared.port.Port.{Port}
use Rattle.av_filter.specs.Again.{again, ends}
use Rattle.av_filter_table.specs.Orderly.{AreInOrder}
use Rattle.av_filter.proofs.EachLemmas.{each-filter}
use Rattle.av_filter.proofs.FitLemmas.{Runs, all_found, all_run}
use Rattle.av_filter.proofs.RowLemmas.{again_row, row_of}
use Rattle.av_filter.specs.Rows
use Rattle.av_filter.specs.Rows.{AgainRow, OpenRow, Row, without}
use Rattle.av_filter.proofs.QuestionLemmas.{order-filter}
use Rattle.av_filter_table.specs.Ports.{least_port}
use Rattle.av_filter_table.specs.Asking.{asks, ended, next_question}
use Rattle.av_filter.specs.Conduct.{FilterEvent, again_each, filter_step, loses_all, moves, restarts}
use Rattle.av_filter_table.specs.declared.question.Question.{Question}
use Rattle.av_filter.specs.Reaction.{Reaction}
use Rattle.av_filter_table.specs.Table.{Table, without_question, on_port}
use Rattle.av_frame.specs.Message.{Letter}
use Rattle.av_service.proofs.RowLemmas.{row_of as service_row_of}
use Rattle.av_service.specs.Conduct.{ServiceEvent, service_step}
use Rattle.av_service.specs.declared.job.Job.{Job}
use Rattle.av_service.specs.Desk.{Desk}
use Rattle.av_service.specs.Response.{Response}
use Rattle.av_service.specs.Rows as service
use Rattle.av_store.specs.Store.{Store}

-- ---- an event of the filter keeps the limits, and asks one question at most, but for those of a lost port

abbrev pub Leaves : Table → Reaction → Type 0
Leaves t r = (r.table.limits ≡ t.limits) × (length r.table.questions ≤ length t.questions + 1)

pub fewer : {A : Type 0} (p : A → Bool) (xs : List A) → length (filter p xs) ≤ length xs
fewer p xs = omega (arith, length-filter_both p (λ x. not (p x)) (λ x. refl) xs)

-- one fewer at least, where one is found
one_fewer : (id : MessageId) (qs : List Question) (q : Question) → find (λ k. same_id k.id id) qs ≡ Some q → length (without_question id qs) + 1 ≤ length qs
one_fewer id [] q found = absurd (cc (found))
one_fewer id (k ∷ qs) q found =
    (elim (same_id k.id id) as (λ b. (if b then Some k else find (λ x. same_id x.id id) qs) ≡ Some q → length (if not b then k ∷ without_question id qs else without_question id qs) + 1 ≤ length (k ∷ qs)) [
      | true ↦ λ e. omega (arith, fewer (λ (x : Question). not (same_id x.id id)) qs)
      | false ↦ λ e. omega (arith, one_fewer id qs q e)
    ]) found

one_more : {A : Type 0} (xs : List A) (x : A) → length (xs ++ x ∷ []) ≡ length xs + 1
one_more xs x = length-append xs (x ∷ [])

module _ (t : Table) where
  same_leaves : (t.limits ≡ t.limits) × (length t.questions ≤ length t.questions + 1)
  same_leaves = (refl, omega arith)

  without_leaves : (id : MessageId) → (t.limits ≡ t.limits) × (length (without_question id t.questions) ≤ length t.questions + 1)
  without_leaves id = (refl, omega (arith, fewer (λ (k : Question). not (same_id k.id id)) t.questions))

  with_leaves : (q : Question) → (t.limits ≡ t.limits) × (length (t.questions ++ q ∷ []) ≤ length t.questions + 1)
  with_leaves q = (refl, omega (arith, one_more t.questions q))

  anew_leaves : (id : MessageId) (q : Question) → (t.limits ≡ t.limits) × (length (without_question id t.questions ++ q ∷ []) ≤ length t.questions + 1)
  anew_leaves id q = (refl, omega (arith, one_more (without_question id t.questions) q, fewer (λ (k : Question). not (same_id k.id id)) t.questions))

open_leaves : {t : Table} {v : Store} {s least : ℕ} {r : Reaction} → OpenRow t v s least r → Leaves t r
unfolding asks
open_leaves {t} {v} {s} (Rows.asked x port at none room e) = with_leaves t (next_question t v port s)
open_leaves {t} _ = same_leaves t

again_leaves : {o : Option Port} {t : Table} {v : Store} {q : Question} {early : List Letter} {r : Reaction} → AgainRow o t v q early r → Leaves t r
unfolding ends asks ended
again_leaves {o} {t} {v} {q} (Rows.anew port to left) = anew_leaves t q.id (next_question t v port q.stream)
again_leaves {o} {t} {v} {q} (Rows.over why) = without_leaves t q.id

-- ---- a lost port's questions are asked again, and are no more then

again_few : {o : Option Port} {t : Table} {v : Store} {q : Question} {early : List Letter} {r : Reaction} → AgainRow o t v q early r → Runs t q → length r.table.questions ≤ length t.questions
unfolding ends asks ended
again_few {o} {t} {v} {q} (Rows.anew port to left) runs =
    omega (arith, one_fewer q.id t.questions q runs, one_more (without_question q.id t.questions) (next_question t v port q.stream))
again_few {o} {t} {v} {q} (Rows.over why) runs = omega (arith, fewer (λ (k : Question). not (same_id k.id q.id)) t.questions)

each_few : (qs : List Question) (t : Table) (v : Store) → AreInOrder qs → Each (Runs t) qs → length (again_each t v qs).table.questions ≤ length t.questions
unfolding again_each
each_few [] t v order runs = omega arith
each_few (q ∷ qs) t v order runs =
    let o : Option Port = least_port t.connected in
    let r : Reaction = again t v q [] in
    omega (arith, again_few (again_row o t v q []) runs.0, each_few qs r.table v order.1 (all_run t v o q qs order.0 runs.1))

each_limits : (qs : List Question) (t : Table) (v : Store) → (again_each t v qs).table.limits ≡ t.limits
unfolding again_each
each_limits [] t v = refl
each_limits (q ∷ qs) t v = let r : Reaction = again t v q [] in each_limits qs r.table v ∙ (again_leaves (again_row (least_port t.connected) t v q [])).0

row_leaves : {t : Table} {v : Store} {f : FilterEvent} {r : Reaction} → Row t v f r → AreInOrder t.questions → Leaves t r
unfolding asks ended loses_all moves restarts
row_leaves (Rows.opens s least r row) order = open_leaves row
row_leaves {t} (Rows.outdated c s q is at) order = again_leaves (again_row _ t _ q _)
row_leaves {t} (Rows.gone s q at) order = without_leaves t q.id
row_leaves {t} {v} (Rows.cleaned s x port at is e) order = with_leaves t (next_question t v port s)
row_leaves {t} (Rows.failed port id why q at) order = without_leaves t q.id
row_leaves {t} (Rows.stale port id version r q at old) order = again_leaves (again_row _ t _ q _)
row_leaves {t} (Rows.replied port id version r q at up) order = without_leaves t q.id
row_leaves {t} (Rows.timed_out seq q at) order = without_leaves t q.id
row_leaves {t} {v} (Rows.moved port other left) order =
    let qs : List Question = on_port port t.questions in
    let run = each-filter (Runs t) (λ q. same_port q.port port) t.questions (all_found t.questions order) in
    let few = each_few qs (without t port) v (order-filter (λ q. same_port q.port port) t.questions order) run in
    (each_limits qs (without t port) v, omega (arith, few))
row_leaves (Rows.lost port none) order = (refl, omega arith)
row_leaves Rows.restarted order = (refl, omega arith)
row_leaves {t} _ order = same_leaves t

pub filter_leaves : (t : Table) (v : Store) (f : FilterEvent) → AreInOrder t.questions → Leaves t (filter_step t v f)
filter_leaves t v f order = row_leaves (row_of t v f) order

-- ---- an event of the service keeps the limits, and lends under one lease at most

abbrev pub LeavesDesk : Desk → Response → Type 0
LeavesDesk d r = (r.desk.limits ≡ d.limits) × (r.desk.last_lease ≤ d.last_lease + 1)

module _ (d : Desk) where
  same_lease : (d.limits ≡ d.limits) × (d.last_lease ≤ d.last_lease + 1)
  same_lease = (refl, omega arith)

  service_row_leaves : {e : ServiceEvent} {r : Response} → service.Row d e r → LeavesDesk d r
  service_row_leaves (service.scanned port id s g l r hears none row) = scan_leaves row
    where
      scan_leaves : {j : Job} {r : Response} → service.ScanRow d j r → LeavesDesk d r
      scan_leaves (service.cached e at) = same_lease
      scan_leaves _ = same_lease
  service_row_leaves (service.lent port id offset bytes j hears at ready free short) = (refl, omega arith)
  service_row_leaves _ = same_lease

  pub service_leaves : (e : ServiceEvent) → LeavesDesk d (service_step d e)
  service_leaves e = service_row_leaves (service_row_of d e)
