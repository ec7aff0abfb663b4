use Rattle.std.proofs.Common.{◌++◌, [], sym, ap, ◌∙◌}
use Rattle.std.proofs.lemmas.List.{append-nil}
use Rattle.av_filter.proofs.AgainLemmas.{closed}
use Rattle.av_filter.specs.Again.{ends}
use Rattle.av_filter_table.specs.Ports.{least_port}
use Rattle.av_filter.proofs.asking_again.ask_or_close.Goals as goal

pub returns-in-None-clause-table : goal.returns-in-None-clause-table
unfolding ends
returns-in-None-clause-table c =
    let t = c.args.table.now in
    let is = closed t c.args.volume.now c.args.question.now [] (least_port t.connected) (sym c.port_again.ensures.port ∙ c.in-None.is) in
    c.close.ensures.table ∙ sym (ap (λ r. r.table) is)

pub returns-in-None-clause-answers : goal.returns-in-None-clause-answers
unfolding ends
returns-in-None-clause-answers c =
    let t = c.args.table.now in
    let is = closed t c.args.volume.now c.args.question.now [] (least_port t.connected) (sym c.port_again.ensures.port ∙ c.in-None.is) in
    c.close.ensures.answers ∙ sym (ap (λ r. c.args.answers.now.items ++ r.answers) is)

pub returns-in-None-clause-messages : goal.returns-in-None-clause-messages
unfolding ends
returns-in-None-clause-messages c =
    let t = c.args.table.now in
    let is = closed t c.args.volume.now c.args.question.now [] (least_port t.connected) (sym c.port_again.ensures.port ∙ c.in-None.is) in
    sym (append-nil c.args.messages.now.items) ∙ sym (ap (λ r. c.args.messages.now.items ++ r.messages) is)
