use Rattle.std.proofs.Common.{◌++◌, ◌∷◌, [], take, sym, ap, ◌∙◌}
use Rattle.av_filter_table.specs.FilterTable.{question_in, questions_of}
use Rattle.av_filter_table.specs.Table.{on_port}
use Rattle.av_filter_table.proofs.PortLemmas.{port-test, on-it, on-another, question-place}
use Rattle.av_filter_table.proofs.filter_table.FilterTable.questions_on.Goals as goal
use Rattle.av_filter_table.proofs.filter_table.FilterTable.questions_on.Goals.{then-eq+in_ok-push, else-eq}

pub questions-preserved : goal.questions-preserved
questions-preserved c =
    let boot = c.self.inside.boot in
    let all = questions_of boot c.self.inside.questions in
    let i = c.questions.place in
    let q = question_in boot c.in-Some.seq c.in-Some.asked in
    let place = question-place boot c.self.inside.questions i c.in-Some.seq c.in-Some.asked c.in-Some.ensures in
    let test = sym (port-test c.in-Some.asked.port c.args.port) ∙ sym c.eq.ensures in
    elim c.if-eq.branch [
      | then-eq+in_ok-push w ↦
          ap (λ f. f.items) w.found-is
          ∙ (w.in_ok-push.ensures.items
          ∙ (ap (λ xs. xs ++ w.question.result ∷ []) c.questions.invariant
          ∙ (ap (λ y. on_port c.args.port (take i all) ++ y ∷ []) w.question.ensures ∙ sym (on-it c.args.port all i q place (test ∙ w.if-eq.true)))))
      | else-eq w ↦ ap (λ f. f.items) w.found-is ∙ (c.questions.invariant ∙ sym (on-another c.args.port all i q place (test ∙ w.if-eq.false)))
    ]
