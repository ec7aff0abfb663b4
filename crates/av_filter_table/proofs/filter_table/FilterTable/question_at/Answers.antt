use Rattle.std.proofs.Common.{◌≡◌, Some, None, sym, ap, ◌∙◌}
use Rattle.av_filter_table.proofs.TableLemmas.{question-other, question-row}
use Rattle.av_filter_table.proofs.filter_table.FilterTable.question_at.Goals as goal

pub returns-then-id-self : goal.returns-then-id-self
returns-then-id-self c = rw (← c.self.view_is) (sym (question-other c.self.inside.boot c.args.id c.self.inside.questions (λ same. c.if-id-self.true (sym same))))

pub returns-in_err-asked : goal.returns-in_err-asked
returns-in_err-asked c =
    let same : c.args.id.boot ≡ c.self.inside.boot = c.if-id-self.false in
    c.from_residual.ensures
    ∙ rw (← c.self.view_is) (question-row c.self.inside.boot c.args.id c.self.inside.questions None c.len-numbers_ascend.ensures.ascend same c.in_err-asked.ensures)

pub returns : goal.returns
returns c =
    let same : c.args.id.boot ≡ c.self.inside.boot = c.if-id-self.false in
    ap Some c.question.ensures
    ∙ rw (← c.self.view_is) (question-row c.self.inside.boot c.args.id c.self.inside.questions (Some c.in_ok-asked.asked) c.len-numbers_ascend.ensures.ascend same c.in_ok-asked.ensures)
