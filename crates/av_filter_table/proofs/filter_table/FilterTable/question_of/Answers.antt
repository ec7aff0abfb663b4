use Rattle.std.proofs.Common.{◌≢◌, Some, IfSome, sym, ap, subst, ◌∙◌}
use Rattle.av_context.specs.declared.context_state.ContextState.TheVariants.{Scanning}
use Rattle.av_filter_table.specs.Table.{question_at}
use Rattle.av_numbered.proofs.MapLemmas.{none_some, some_same}
use Rattle.av_filter_table.proofs.TableLemmas.{not-named, question-named, question-misnamed}
use Rattle.av_filter_table.proofs.filter_table.FilterTable.question_of.Goals as goal

pub returns-in_err-state : goal.returns-in_err-state
returns-in_err-state c = c.from_residual.ensures ∙ rw (← c.self.view_is) (sym (not-named c.self.inside.boot c.self.inside.sequence c.self.inside.questions c.self.inside.pended c.self.inside.contexts c.args.stream c.self.invariant.rows c.len-numbers_ascend.ensures.ascend (λ id e. none_some (c.in_err-state.ensures ∙ e))))

pub returns-in_default : goal.returns-in_default
returns-in_default c =
    rw (← c.self.view_is) (sym (not-named c.self.inside.boot c.self.inside.sequence c.self.inside.questions c.self.inside.pended c.self.inside.contexts c.args.stream c.self.invariant.rows c.len-numbers_ascend.ensures.ascend (λ id e. absurd (c.in_default.not-Scanning id (some_same c.in_ok-state.state (Scanning id) (c.in_ok-state.ensures ∙ e))))))

pub returns-in_err-question : goal.returns-in_err-question
returns-in_err-question c =
    c.from_residual-in_err-question.ensures
    ∙ rw (← c.self.view_is) (sym (question-misnamed c.self.inside.boot c.self.inside.sequence c.self.inside.questions c.self.inside.pended c.self.inside.contexts c.args.stream c.in-Scanning.id c.self.invariant.rows c.len-numbers_ascend.ensures.ascend (sym c.in_ok-state.ensures ∙ ap Some c.in-Scanning.is) (subst (λ o. IfSome o (λ x. x.stream ≢ c.args.stream)) (sym ((ap (λ t. question_at c.in-Scanning.id t.questions) c.self.view_is) ∙ sym c.in_err-question.ensures)) tt)))

pub returns-then-named-wanted : goal.returns-then-named-wanted
returns-then-named-wanted c =
    rw (← c.self.view_is) (sym (question-misnamed c.self.inside.boot c.self.inside.sequence c.self.inside.questions c.self.inside.pended c.self.inside.contexts c.args.stream c.in-Scanning.id c.self.invariant.rows c.len-numbers_ascend.ensures.ascend (sym c.in_ok-state.ensures ∙ ap Some c.in-Scanning.is) (subst (λ o. IfSome o (λ x. x.stream ≢ c.args.stream)) (c.in_ok-question.ensures ∙ sym (ap (λ t. question_at c.in-Scanning.id t.questions) c.self.view_is)) (λ same. c.if-named-wanted.true (c.get-named.ensures ∙ (same ∙ sym c.get-wanted.ensures))))))

pub returns : goal.returns
returns c =
    rw (← c.self.view_is) (question-named c.self.inside.boot c.self.inside.sequence c.self.inside.questions c.self.inside.pended c.self.inside.contexts c.args.stream c.in-Scanning.id c.in_ok-question.question c.self.invariant.rows c.len-numbers_ascend.ensures.ascend (sym c.in_ok-state.ensures ∙ ap Some c.in-Scanning.is) (c.in_ok-question.ensures ∙ sym (ap (λ t. question_at c.in-Scanning.id t.questions) c.self.view_is)) (sym c.get-named.ensures ∙ (c.if-named-wanted.false ∙ c.get-wanted.ensures)))
