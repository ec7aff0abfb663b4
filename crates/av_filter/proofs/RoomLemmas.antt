-- How much an event gives out: two messages at most, and where a port is lost one for each question; and no more than one answer
-- beside those to the opens that wait.
use Rattle.std.proofs.Common.{◌≡◌, refl, ℕ, ◌+◌, ◌≤◌, not, nat_le, Bool, true, false, cond, List, [], ◌∷◌, length, map, Option, arith, ap}
use Rattle.std.specs.Prelude.{filter}
use Rattle.std.proofs.lemmas.Bool.{cond_both}
use Rattle.std.proofs.lemmas.List.{length-append, length-map}
use Rattle.std.proofs.lemmas.List.Filters.{length-filter_both}
use Rattle.av_base.specs.Port.{same_port}
use Rattle.av_base.specs.declared.cause.Cause.TheVariants.{Unsettled}
use Rattle.av_base.specs.declared.port.Port.{Port}
use Rattle.av_filter.proofs.RowLemmas.{again_row, row_of}
use Rattle.av_filter.specs.Again.{again, again_at, ends, scan_message}
use Rattle.av_filter.specs.Call.{Reacts}
use Rattle.av_filter.specs.Conduct.{FilterEvent, again_each, filter_step, in_order, loses_all, moves, placed, restarts, Opens}
use Rattle.av_filter.specs.Opening.{opened}
use Rattle.av_filter.specs.Reaction.{Reaction}
use Rattle.av_filter.specs.Room.{most_messages}
use Rattle.av_filter.specs.Rows
use Rattle.av_filter.specs.Rows.{AgainRow, OpenRow, Row, without}
use Rattle.av_filter.specs.declared.out.Out.{Out}
use Rattle.av_filter_table.specs.Answering.{refused_now}
use Rattle.av_filter_table.specs.Asking.{again_cause, asks, ended, is_lost, moved}
use Rattle.av_filter_table.specs.Ports.{least_port}
use Rattle.av_filter_table.specs.Table.{Table, next_id, on_port, opens_of, waits_for}
use Rattle.av_filter_table.specs.declared.pended.Pended.{Pended}
use Rattle.av_filter_table.specs.declared.question.Question.{Question}
use Rattle.av_frame.specs.Message.{Letter}
use Rattle.av_pend.specs.Pend.{open_of}
use Rattle.av_pend.specs.declared.answer.Answer.{Answer}
use Rattle.av_store.specs.Store.{Store}

-- so many messages at most, and one answer more than opens wait
pub record IsSmall (most n : ℕ) (r : Reaction) : Type 0 where
  pub messages : length r.messages ≤ most
  pub answers : length r.answers ≤ n + 1

pub passed : {A : Type 0} (p : A → Bool) (xs : List A) → length (filter p xs) ≤ length xs
passed p [] = omega (arith)
passed p (x ∷ xs) =
    let rest = passed p xs in
    elim (p x) as (λ b. length (cond b (x ∷ filter p xs) (filter p xs)) ≤ length (x ∷ xs)) [ true ↦ omega (arith, rest) | false ↦ omega (arith, rest) ]

-- answers to some of these opens
told : {B : Type 0} (f : Pended → B) (p : Pended → Bool) (ps : List Pended) → length (map f (filter p ps)) ≤ length ps + 1
told f p ps = let some = passed p ps in let same = length-map (filter p ps) f in omega (arith, some, same)

all_told : {B : Type 0} (f : Pended → B) (ps : List Pended) → length (map f ps) ≤ length ps + 1
all_told f ps = let same = length-map ps f in omega (arith, same)

-- a question that is asked again, or ends, sends one message at most, and each open that waits still waits or is answered
pub record IsAgain (k : ℕ) (t : Table) (r : Reaction) : Type 0 where
  pub messages : length r.messages ≤ k
  pub answers : length r.answers + length r.table.pended ≡ length t.pended

row_gives : {o : Option Port} {t : Table} {v : Store} {q : Question} {early : List Letter} {r : Reaction} → AgainRow o t v q early r → IsAgain (length early + 1) t r
unfolding ends ended asks
row_gives {o} {t} {v} {q} {early} (Rows.over why) =
    let told = length-map (opens_of q.id t.pended) (λ p. refused_now t v (again_cause p) p) in
    let both = length-filter_both (waits_for q.id) (λ p. not (waits_for q.id p)) (λ p. refl) t.pended in
    record { messages = omega arith; answers = omega (arith, told, both) }
row_gives {o} {t} {v} {q} {early} (Rows.anew port to left) =
    let told = length-map (filter (is_lost q.id) t.pended) (refused_now t v Unsettled) in
    let kept = length-map (filter (λ p. not (is_lost q.id p)) t.pended) (moved q.id (next_id t)) in
    let both = length-filter_both (is_lost q.id) (λ p. not (is_lost q.id p)) (λ p. refl) t.pended in
    let sent = length-append early (scan_message t v port q.stream ∷ []) in
    record { messages = omega (arith, sent); answers = omega (arith, told, kept, both) }

pub again_gives : (t : Table) (v : Store) (q : Question) (early : List Letter) (o : Option Port) → IsAgain (length early + 1) t (again_at o t v q early)
again_gives t v q early o = row_gives (again_row o t v q early)

small_again : (t : Table) (v : Store) (q : Question) (early : List Letter) (o : Option Port) → length early ≤ 1 → IsSmall 2 (length t.pended) (again_at o t v q early)
small_again t v q early o few =
    let gives = again_gives t v q early o in
    let messages = gives.messages in
    let answers = gives.answers in
    record { messages = omega (arith, messages, few); answers = omega (arith, answers) }

pub each_gives : (v : Store) (qs : List Question) (t : Table) → IsAgain (length qs) t (again_each t v qs)
unfolding again_each
each_gives v [] t = record { messages = omega arith; answers = omega arith }
each_gives v (q ∷ qs) t =
    let r : Reaction = again t v q [] in
    let first = again_gives t v q [] (least_port t.connected) in
    let rest = each_gives v qs r.table in
    let few = first.messages in
    let fewer = rest.messages in
    let told = first.answers in
    let more = rest.answers in
    let sent = length-append r.messages (again_each r.table v qs).messages in
    let given = length-append r.answers (again_each r.table v qs).answers in
    record { messages = omega (arith, few, fewer, sent); answers = omega (arith, told, more, given) }

length-placed : (a : Answer) (xs : List Answer) → length (placed a xs) ≡ length xs + 1
length-placed a [] = refl
length-placed a (b ∷ xs) = cond_both (nat_le (open_of a) (open_of b)) _ _ (λ (ys : List Answer). length ys ≡ length (b ∷ xs) + 1) (λ e. omega arith) (λ e. let rest = length-placed a xs in omega (arith, rest))

length-in_order : (xs : List Answer) → length (in_order xs) ≡ length xs
length-in_order [] = refl
length-in_order (a ∷ xs) = let one_more = length-placed a (in_order xs) in let rest = length-in_order xs in omega (arith, one_more, rest)

small_open : {t : Table} {v : Store} {s least : ℕ} {r : Reaction} → OpenRow t v s least r → IsSmall 2 (length t.pended) r
small_open (Rows.no_stream at) = record { messages = omega arith; answers = omega arith }
small_open _ = record { messages = omega arith; answers = omega arith }

small_moved : (t : Table) (v : Store) (port : Port) → IsSmall (length t.questions) (length t.pended) (moves t v (on_port port t.questions))
unfolding moves
small_moved t v port =
    let gives = each_gives v (on_port port t.questions) t in
    let messages = gives.messages in
    let answers = gives.answers in
    let few = passed (λ q. same_port q.port port) t.questions in
    let same = length-in_order (again_each t v (on_port port t.questions)).answers in
    record { messages = omega (arith, messages, few); answers = omega (arith, answers, same) }

small_row : {t : Table} {v : Store} {f : FilterEvent} {r : Reaction} → Row t v f r → IsSmall (most_messages t f) (length t.pended) r
unfolding loses_all restarts
small_row (Rows.opens s least r row) = small_open row
small_row {t} (Rows.outdated c s q is at) = small_again t _ q _ _ (omega arith)
small_row {t} (Rows.stale port id version r q at old) = small_again t _ q [] _ (omega arith)
small_row {t} (Rows.gone s q at) = record { messages = omega arith; answers = told _ _ t.pended }
small_row {t} (Rows.failed port id why q at) = record { messages = omega arith; answers = told _ _ t.pended }
small_row {t} (Rows.replied port id version r q at up) = record { messages = omega arith; answers = told _ _ t.pended }
small_row {t} (Rows.timed_out seq q at) = record { messages = omega arith; answers = told _ _ t.pended }
small_row {t} (Rows.moved port other left) = small_moved (without t port) _ port
small_row {t} (Rows.lost port none) = record { messages = omega arith; answers = all_told _ t.pended }
small_row {t} Rows.restarted = record { messages = omega arith; answers = all_told _ t.pended }
small_row _ = record { messages = omega arith; answers = omega arith }

pub small_reaction : (t : Table) (v : Store) (f : FilterEvent) → IsSmall (most_messages t f) (length t.pended) (filter_step t v f)
small_reaction t v f = small_row (row_of t v f)

-- an event that a call meets answers no more than that
pub few : (out : Out) (t t' : Table) (v v' : Store) (e : FilterEvent) → Reacts out t' v' (filter_step t v e) → length out.answers.items ≤ length t.pended + 1
few out t t' v v' e reacts = let small = small_reaction t v e in let same = ap length reacts.answers in omega (arith, small.answers, same)

pub few_opened : (out : Out) (t t' : Table) (v v' : Store) (s least : ℕ) → Reacts out t' v' (opened t v s least) → length out.answers.items ≤ length t.pended + 1
unfolding filter_step
few_opened out t t' v v' s least reacts = few out t t' v v' (Opens s least) reacts
