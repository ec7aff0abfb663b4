use Rattle.std.proofs.Common.{◌≡◌, ◌+◌, ◌<◌, ◌^◌, ◌++◌, ◌∷◌, [], Some, List, drop, length, refl, sym, ap, ◌∙◌, subst, arith}
use Rattle.std.proofs.lemmas.List.{append-nil, drop_all, drop_more, length-append}
use Rattle.std.specs.List.{AllByRecursion as Each}
use Rattle.av_base.specs.MessageId.{same_id}
use Rattle.av_filter.proofs.LosingLemmas.{Runs, answers_behind, messages_behind, next_stands, next_run, none_behind, table_behind}
use Rattle.av_filter.proofs.ReadyLemmas.{running, stream_there}
use Rattle.av_filter.proofs.RoomLemmas.{again_gives, passed}
use Rattle.av_filter.specs.Again.{again}
use Rattle.av_filter.specs.Conduct.{again_each}
use Rattle.av_filter.specs.Fit.{Stands}
use Rattle.av_filter_table.specs.Orderly.{AreInOrder}
use Rattle.av_filter_table.specs.Ports.{least_port}
use Rattle.av_filter_table.specs.Table.{Table, waits_for}
use Rattle.av_filter_table.specs.declared.question.Question.{Question}
use Rattle.av_frame.specs.Message.{Letter}
use Rattle.av_pend.specs.declared.answer.Answer.{Answer}
use Rattle.av_filter.proofs.losing.move_each.Goals as goal

pub lost-init : goal.lost-init
lost-init c = record {
  stands = c.requires.stands;
  order = c.requires.order;
  run = c.requires.run;
  answer_room = c.requires.answer_room;
  message_room = c.requires.message_room;
  table = refl;
  answers = refl;
  messages = refl;
}

pub ask_or_close-requires-clause-runs : goal.ask_or_close-requires-clause-runs
ask_or_close-requires-clause-runs c =
    let t = c.lost.table in
    let q = c.question-item.result in
    let small : t.boot < 2 ^ 64 = omega arith in
    let last : t.sequence < 2 ^ 64 = omega arith in
    let split : drop c.lost.question-index c.args.lost.now ≡ q ∷ drop (c.lost.question-index + 1) c.args.lost.now =
    drop_more c.args.lost.now c.lost.question-index q c.lost-test.true ∙ ap (λ (k : Question). k ∷ drop (c.lost.question-index + 1) c.args.lost.now) (sym c.question-item.is) in
    let run = subst (Each (Runs t)) split c.lost.invariant.run in
    running t (λ k. same_id k.id q.id) (Some q) c.boot-boot.ensures.orderly c.boot-boot.ensures.mounted small last (sym run.0)

pub ask_or_close-requires-clause-there : goal.ask_or_close-requires-clause-there
ask_or_close-requires-clause-there c =
    stream_there c.lost.table c.args.volume.now c.question-item.result c.lost.invariant.stands.fits (ask_or_close-requires-clause-runs c)

pub ask_or_close-requires-clause-answer_room : goal.ask_or_close-requires-clause-answer_room
ask_or_close-requires-clause-answer_room c =
    let few = passed (waits_for c.question-item.result.id) c.lost.table.pended in
    let room = c.lost.invariant.answer_room in
    omega (arith, few, room)

pub ask_or_close-requires-clause-message_room : goal.ask_or_close-requires-clause-message_room
ask_or_close-requires-clause-message_room c =
    let q = c.question-item.result in
    let split = ap (λ (qs : List Question). length qs) (drop_more c.args.lost.now c.lost.question-index q c.lost-test.true) in
    let room = c.lost.invariant.message_room in
    omega (arith, split, room)

pub lost-preserved : goal.lost-preserved
lost-preserved c =
    let t = c.lost.table in
    let v = c.args.volume.now in
    let q = c.question-item.result in
    let rest = drop (c.lost.question-index + 1) c.args.lost.now in
    let before = c.lost.invariant in
    let split : drop c.lost.question-index c.args.lost.now ≡ q ∷ rest = drop_more c.args.lost.now c.lost.question-index q c.lost-test.true ∙ ap (λ (k : Question). k ∷ rest) (sym c.question-item.is) in
    let order = subst AreInOrder split before.order in
    let run = subst (Each (Runs t)) split before.run in
    let is = c.ask_or_close.ensures.table in
    let gives = again_gives t v q [] (least_port t.connected) in
    let told = c.ask_or_close.ensures.answers in
    let sent = c.ask_or_close.ensures.messages in
    let waiting = ap (λ (u : Table). length u.pended) is in
    let counted = gives.answers in
    let few = gives.messages in
    let given = ap (λ (xs : List Answer). length xs) told ∙ length-append c.lost.answers.items (again t v q []).answers in
    let asked = ap (λ (ms : List Letter). length ms) sent ∙ length-append c.lost.messages.items (again t v q []).messages in
    let left = ap (λ (qs : List Question). length qs) split in
    let answer_room = before.answer_room in
    let message_room = before.message_room in
    let answers_old = c.lost.answers.ok in
    let answers_new = c.ask_or_close.new.answers.ok in
    let messages_old = c.lost.messages.ok in
    let messages_new = c.ask_or_close.new.messages.ok in
    let answer_capacity = c.ask_or_close.ensures.answer_capacity in
    let message_capacity = c.ask_or_close.ensures.message_capacity in
    record {
      stands = subst (λ u. Stands u v) (sym is) (next_stands t v q before.stands run.0);
      order = order.1;
      run = subst (λ u. Each (Runs u) rest) (sym is) (next_run t v q rest order.0 run.1);
      answer_room = omega (arith, waiting, counted, given, answer_room, answers_old, answers_new, answer_capacity);
      message_room = omega (arith, few, asked, left, message_room, messages_old, messages_new, message_capacity);
      table = ap (λ u. (again_each u v rest).table) is ∙ table_behind t v q rest ∙ ap (λ qs. (again_each t v qs).table) (sym split) ∙ before.table;
      answers =
          (λ i. told i ++ (again_each (is i) v rest).answers)
          ∙ answers_behind t v q rest c.lost.answers.items
          ∙ ap (λ qs. c.lost.answers.items ++ (again_each t v qs).answers) (sym split)
          ∙ before.answers;
      messages =
          (λ i. sent i ++ (again_each (is i) v rest).messages)
          ∙ messages_behind t v q rest c.lost.messages.items
          ∙ ap (λ qs. c.lost.messages.items ++ (again_each t v qs).messages) (sym split)
          ∙ before.messages;
    }

pub returns-clause-table : goal.returns-clause-table
returns-clause-table c =
    let v = c.args.volume.now in
    let all = drop_all c.lost.question-index c.args.lost.now (omega arith) in
    sym (none_behind c.lost.table v).0 ∙ ap (λ qs. (again_each c.lost.table v qs).table) (sym all) ∙ c.lost.invariant.table

pub returns-clause-answers : goal.returns-clause-answers
returns-clause-answers c =
    let v = c.args.volume.now in
    let all = drop_all c.lost.question-index c.args.lost.now (omega arith) in
    sym (append-nil c.lost.answers.items) ∙ ap (λ xs. c.lost.answers.items ++ xs) (sym (none_behind c.lost.table v).1 ∙ ap (λ qs. (again_each c.lost.table v qs).answers) (sym all)) ∙ c.lost.invariant.answers

pub returns-clause-messages : goal.returns-clause-messages
returns-clause-messages c =
    let v = c.args.volume.now in
    let all = drop_all c.lost.question-index c.args.lost.now (omega arith) in
    sym (append-nil c.lost.messages.items) ∙ ap (λ xs. c.lost.messages.items ++ xs) (sym (none_behind c.lost.table v).2 ∙ ap (λ qs. (again_each c.lost.table v qs).messages) (sym all)) ∙ c.lost.invariant.messages
