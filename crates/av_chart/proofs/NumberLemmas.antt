-- What an event does to the numbers of opens: which it takes, and which wait or are answered.
use Rattle.std.proofs.Common.{◌≡◌, ℕ, suc, ◌+◌, ◌==◌, ◌++◌, List, [], ◌∷◌, length, map, Option, if◌then◌else◌, refl, sym, ap, ◌∙◌, subst, arith}
use Rattle.std.proofs.Math.Seq.{drop-append_seam}
use Rattle.std.proofs.lemmas.Bool.Decides.{nat_tests}
use Rattle.std.proofs.lemmas.List.Edits.{between_none}
use Rattle.std.proofs.lemmas.Slice.{between_to_end}
use Rattle.std.specs.List.{between}
use Rattle.av_base.specs.declared.port.Port.{Port}
use Rattle.av_filter.proofs.CountLemmas.{Balanced, filter_balanced, opens_after}
use Rattle.av_filter.proofs.EachLemmas.{map_same}
use Rattle.av_filter.specs.Again.{ends}
use Rattle.av_filter.specs.Conduct.{FilterEvent, again_each, filter_step, loses_all, moves, restarts}
use Rattle.av_filter.specs.Once.{once_up_to, times}
use Rattle.av_filter.proofs.RowLemmas.{again_row, row_of}
use Rattle.av_filter.specs.Rows
use Rattle.av_filter.specs.Rows.{AgainRow, OpenRow, Row, without}
use Rattle.av_filter.specs.Reaction.{Reaction}
use Rattle.av_filter_table.specs.Table.{Table, on_port}
use Rattle.av_filter_table.specs.declared.question.Question.{Question}
use Rattle.av_frame.specs.Message.{Letter}
use Rattle.av_pend.specs.Pend.{open_of}
use Rattle.av_service.specs.Response.{Response}
use Rattle.av_store.specs.Store.{Store}
use Rattle.av_history.proofs.StepLemmas.{Unrefused, step_gives}
use Rattle.av_history.specs.Held.{pended}
use Rattle.av_history.specs.World.{WorldState, filter_outcome, given_at}
use Rattle.av_history.specs.World.{back_at, service_outcome, step_of}
use Rattle.av_history.specs.declared.event.Event.{Event}
use Rattle.av_history.specs.declared.given.Given.{Given}
use Rattle.av_history.specs.declared.report.Line.{Line}
use Rattle.av_history.specs.declared.report.Report.{Report}
use Rattle.av_chart.specs.Marks.{filter_id, given_in, submitted_id}
use Rattle.av_history.specs.declared.event.Event.TheVariants as event

-- ---- only an open takes a number, and tells it

record TellsNone (r : Reaction) : Type 0 where
  none : filter_id r.note ≡ 0

record TellsLast (r : Reaction) : Type 0 where
  last : filter_id r.note ≡ r.volume.opens

open_note : {t : Table} {v : Store} {s least : ℕ} {r : Reaction} → OpenRow t v s least r → TellsLast r
open_note (Rows.no_stream at) = record { last = refl }
open_note _ = record { last = refl }

again_note : {o : Option Port} {t : Table} {v : Store} {q : Question} {early : List Letter} {r : Reaction} → AgainRow o t v q early r → TellsNone r
unfolding ends
again_note (Rows.anew port to left) = record { none = refl }
again_note (Rows.over why) = record { none = refl }

-- questions that are asked again one after the other
each_note : (t : Table) (v : Store) (qs : List Question) → TellsNone (again_each t v qs)
unfolding again_each
each_note t v [] = record { none = refl }
each_note t v (q ∷ qs) = record { none = refl }

-- ---- the numbers that are taken

-- once for the number that was taken
abbrev pub taken_as : ℕ → ℕ → ℕ
taken_as id n = if id == 0 then 0 else (if id == n then 1 else 0)

-- from the last number to the next last one
abbrev pub Takes : ℕ → ℕ → ℕ → Type 0
Takes k id next = (n : ℕ) → once_up_to k n + taken_as id n ≡ once_up_to next n

none_taken : (k id : ℕ) → id ≡ 0 → Takes k id k
none_taken k id none n = grind (arith, nat_tests)

one_taken : (k id : ℕ) → id ≡ k + 1 → Takes k id (k + 1)
one_taken k id next n = grind (arith, nat_tests)

quiet_takes : (v : Store) (r : Reaction) → TellsNone r → r.volume.opens ≡ v.opens → Takes v.opens (filter_id r.note) r.volume.opens
quiet_takes v r none same = subst (Takes v.opens (filter_id r.note)) (sym same) (none_taken v.opens (filter_id r.note) none.none)

open_takes : (v : Store) (r : Reaction) → TellsLast r → r.volume.opens ≡ v.opens + 1 → Takes v.opens (filter_id r.note) r.volume.opens
open_takes v r last next = subst (Takes v.opens (filter_id r.note)) (sym next) (one_taken v.opens (filter_id r.note) (last.last ∙ next))

row_takes : {t : Table} {v : Store} {f : FilterEvent} {r : Reaction} → Row t v f r → r.volume.opens ≡ opens_after v.opens f → Takes v.opens (filter_id r.note) r.volume.opens
unfolding loses_all moves restarts
row_takes {t} {v} (Rows.opens s least r row) so = open_takes v r (open_note row) so
row_takes {t} {v} {f} {r} (Rows.outdated c s q is at) so = quiet_takes v r (again_note (again_row _ t _ q _)) so
row_takes {t} {v} {f} {r} (Rows.stale port id version x q at old) so = quiet_takes v r (again_note (again_row _ t v q [])) so
row_takes {t} {v} (Rows.moved port other left) so =
    let qs = on_port port t.questions in quiet_takes v (moves (without t port) v qs) (record { none = (each_note (without t port) v qs).none }) so
row_takes {t} {v} {f} {r} _ so = quiet_takes v r (record { none = refl }) so

by_event : (t : Table) (v : Store) (f : FilterEvent) → (filter_step t v f).volume.opens ≡ opens_after v.opens f
    → Takes v.opens (filter_id (filter_step t v f).note) (filter_step t v f).volume.opens
by_event t v f so = row_takes (row_of t v f) so

-- ---- the numbers that wait or are answered

-- the numbers of answers
abbrev pub answered_in : List Given → List ℕ
answered_in given = map (λ g. open_of g.answer) given

-- a report over the next world: from the last number and those that waited
pub record Goes (k : ℕ) (waiting : List ℕ) (p : Report × WorldState) : Type 0 where
  pub takes : Takes k (submitted_id p.0.note) p.1.volume.opens
  pub moves : (n : ℕ) → times n (pended p.1) + times n (answered_in (given_in p.0 p.1)) ≡ times n waiting + taken_as (submitted_id p.0.note) n

-- what a list has behind its old end
behind_end : {A : Type 0} (old new : List A) → between (length old) (length (old ++ new)) (old ++ new) ≡ new
behind_end old new = between_to_end (old ++ new) (length old) (length (old ++ new)) (omega arith) ∙ drop-append_seam old new

filter_goes : (w : WorldState) (e : Event) (line : Store → Line) (f : FilterEvent)
    → Goes w.volume.opens (pended w) (filter_outcome w e line (filter_step w.table w.volume f))
filter_goes w e line f =
    let r = filter_step w.table w.volume f in
    let b : Balanced w.table w.volume (opens_after w.volume.opens f) r = filter_balanced w.table w.volume f in
    let takes = by_event w.table w.volume f b.opens in
    let new : List Given = map (given_at (suc (length w.history))) r.answers in
    let given : answered_in (between (length w.answers) (length (w.answers ++ new)) (w.answers ++ new)) ≡ map open_of r.answers =
    ap answered_in (behind_end w.answers new) ∙ map_same (λ (a : Given). open_of a.answer) (given_at (suc (length w.history))) open_of (λ a. refl) r.answers in
    record {
      takes = takes;
      moves = λ n. omega (arith, b.kept n, takes n, ap (times n) given, ap (λ k. once_up_to k n) b.opens);
    }

service_goes : (w : WorldState) (e : Event) (port : Port) (line : Line) (r : Response) → Goes w.volume.opens (pended w) (service_outcome w e port line r)
service_goes w e port line r =
    record {
      takes = none_taken w.volume.opens 0 refl;
      moves = λ n. omega (arith, ap (λ g. times n (answered_in g)) (between_none w.answers (length w.answers)));
    }

pub step_goes : (w : WorldState) (e : Event) → Unrefused (Goes w.volume.opens (pended w)) (step_of w e)
step_goes w e =
    step_gives (λ e. Goes w.volume.opens (pended w)) w (record {
      filter = λ e line f is ok. filter_goes w e line f;
      service = λ e port line s is. service_goes w e port line _;
      publish = λ v ps s is. record {
        takes = none_taken w.volume.opens 0 refl;
        moves = λ n. omega (arith, ap (λ g. times n (answered_in g)) (between_none w.answers (length w.answers)));
      };
      work = λ k x line at. service_goes (back_at w k) (event.Run k) x.0 line _;
    }) e
