use Rattle.std.proofs.Common.{◌≡◌, true, false, None, Some, if◌then◌else◌, rules, sym, ap, ◌∙◌}
use Rattle.av_base.specs.Port.{same_port}
use Rattle.av_filter.proofs.QuestionLemmas.{on-at, where_on}
use Rattle.av_filter_table.specs.Table.{question_at}
use Rattle.av_filter.proofs.running.running_on.Goals as goal

pub returns-in_err-question-clause-found : goal.returns-in_err-question-clause-found
returns-in_err-question-clause-found c =
    let none : question_at c.args.id c.args.table.now.questions ≡ None = sym c.running_at.ensures.found ∙ c.in_err-question.was in
    c.from_residual.ensures ∙ sym (on-at c.args.port c.args.id c.args.table.now.questions c.boot-in_order.ensures.orderly.order ∙ ap (where_on c.args.port) none)

pub returns-then-ne-clause-found : goal.returns-then-ne-clause-found
returns-then-ne-clause-found c =
    let q = c.in_ok-question.question in
    let some : question_at c.args.id c.args.table.now.questions ≡ Some q = sym c.running_at.ensures.found ∙ c.in_ok-question.was in
    let other : same_port q.port c.args.port ≡ false = search rules in
    sym (on-at c.args.port c.args.id c.args.table.now.questions c.boot-in_order.ensures.orderly.order ∙ ap (where_on c.args.port) some ∙ ap (λ b. if b then Some q else None) other)

pub returns-clause-found : goal.returns-clause-found
returns-clause-found c =
    let q = c.in_ok-question.question in
    let some : question_at c.args.id c.args.table.now.questions ≡ Some q = sym c.running_at.ensures.found ∙ c.in_ok-question.was in
    let same : same_port q.port c.args.port ≡ true = search rules in
    sym (on-at c.args.port c.args.id c.args.table.now.questions c.boot-in_order.ensures.orderly.order ∙ ap (where_on c.args.port) some ∙ ap (λ b. if b then Some q else None) same)
