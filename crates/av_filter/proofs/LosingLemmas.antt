-- The questions of a lost port, asked again one after the other.
use Rattle.std.proofs.Common.{◌≡◌, ◌<◌, ◌++◌, List, [], ◌∷◌, Option, None, Some, IsSome, refl, ap}
use Rattle.std.proofs.lemmas.List.{append_assoc}
use Rattle.std.specs.List.{AllByRecursion as Each}
use Rattle.av_base.specs.Port.{same_port}
use Rattle.av_base.specs.declared.port.Port.{Port}
use Rattle.av_filter.proofs.EachLemmas.{each-filter}
use Rattle.av_filter.proofs.FitLemmas.{all_found, all_run, each_fits}
use Rattle.av_filter.proofs.QuestionLemmas.{order-filter}
use Rattle.av_filter.specs.Again.{again}
use Rattle.av_filter.specs.Conduct.{again_each, disconnects, disconnects_to, loses_all, moves}
use Rattle.av_filter.specs.Fit.{Stands}
use Rattle.av_filter_table.specs.Orderly.{AreInOrder}
use Rattle.av_filter.specs.declared.note.Note.TheVariants.{Quiet}
use Rattle.av_filter_table.specs.Ports.{least_port, without_port}
use Rattle.av_filter_table.specs.Table.{Table, on_port, question_at}
use Rattle.av_filter_table.specs.declared.question.Question.{Question}
use Rattle.av_frame.specs.Message.{Letter}
use Rattle.av_pend.specs.declared.answer.Answer.{Answer}
use Rattle.av_store.specs.Store.{Store}

-- the table behind the first of them
abbrev pub next : Table → Store → Question → Table
next t v q = (again t v q []).table

-- a question of this list runs
abbrev pub Runs : Table → Question → Type 0
Runs t q = question_at q.id t.questions ≡ Some q

module _ (t : Table) (v : Store) (q : Question) where
  pub next_stands : Stands t v → Runs t q → Stands (next t v q) v
  unfolding again_each
  next_stands stands runs = each_fits v (q ∷ []) t stands (tt, tt) (runs, tt)

  pub next_run : (qs : List Question) → Each (λ k. q.id.seq < k.id.seq) qs → Each (Runs t) qs → Each (Runs (next t v q)) qs
  next_run qs above run = all_run t v (least_port t.connected) q qs above run

  pub table_behind : (qs : List Question) → (again_each (next t v q) v qs).table ≡ (again_each t v (q ∷ qs)).table
  unfolding again_each
  table_behind qs = refl

  pub answers_behind : (qs : List Question) (given : List Answer) → (given ++ (again t v q []).answers) ++ (again_each (next t v q) v qs).answers ≡ given ++ (again_each t v (q ∷ qs)).answers
  unfolding again_each
  answers_behind qs given = append_assoc given (again t v q []).answers (again_each (next t v q) v qs).answers

  pub messages_behind : (qs : List Question) (sent : List Letter) → (sent ++ (again t v q []).messages) ++ (again_each (next t v q) v qs).messages ≡ sent ++ (again_each t v (q ∷ qs)).messages
  unfolding again_each
  messages_behind qs sent = append_assoc sent (again t v q []).messages (again_each (next t v q) v qs).messages

-- behind the last of them nothing more is given out
pub none_behind : (t : Table) (v : Store) → ((again_each t v []).table ≡ t) × ((again_each t v []).answers ≡ []) × ((again_each t v []).messages ≡ [])
unfolding again_each
none_behind t v = (refl, refl, refl)

-- no port is left
pub lost_where : (t : Table) (v : Store) (port : Port) → least_port (without_port port t.connected) ≡ None → disconnects t v port ≡ loses_all (record t { connected = without_port port t.connected }) v
unfolding disconnects disconnects_to
lost_where t v port none = ap (λ o. disconnects_to o (record t { connected = without_port port t.connected }) v port) none

-- the other port is left
pub moved_where : (t : Table) (v : Store) (port : Port) → IsSome (least_port (without_port port t.connected)) → disconnects t v port ≡ moves (record t { connected = without_port port t.connected }) v (on_port port t.questions)
unfolding disconnects disconnects_to
moved_where t v port some = go (least_port (without_port port t.connected)) some
  where
    go : (o : Option Port) → IsSome o → disconnects_to o (record t { connected = without_port port t.connected }) v port ≡ moves (record t { connected = without_port port t.connected }) v (on_port port t.questions)
    go None some = absurd (cc)
    go (Some least) some = refl

-- it says nothing more
pub each_quiet : (t : Table) (v : Store) (qs : List Question) → (again_each t v qs).note ≡ Quiet
unfolding again_each
each_quiet t v [] = refl
each_quiet t v (q ∷ qs) = refl

-- the questions of a port run, in the order of their ids
pub port_order : (port : Port) (qs : List Question) → AreInOrder qs → AreInOrder (on_port port qs)
port_order port qs order = order-filter (λ q. same_port q.port port) qs order

pub port_run : (t : Table) (port : Port) → AreInOrder t.questions → Each (Runs t) (on_port port t.questions)
port_run t port order = each-filter (Runs t) (λ q. same_port q.port port) t.questions (all_found t.questions order)
