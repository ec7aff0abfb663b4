use Rattle.std.proofs.Common.{◌≡◌, [], None, Some, sym, subst}
use Rattle.av_context.specs.declared.context_state.ContextState.TheVariants.{Modified}
use Rattle.av_filter_table.proofs.TableLemmas.{none-of_others}
use Rattle.av_filter_table.specs.FilterTable.{id_of}
use Rattle.av_filter_table.specs.Table.{opens_of}
use Rattle.av_filter.proofs.ClosingLemmas.{ends}
use Rattle.av_filter.proofs.closing.close.Goals as goal

pub end_removed-requires-clause-none : goal.end_removed-requires-clause-none
end_removed-requires-clause-none c =
    subst (λ t. opens_of (id_of t.boot c.args.question.now.id.seq) t.pended ≡ []) (sym c.answer_opens.ensures.table) (none-of_others (id_of c.args.table.now.boot c.args.question.now.id.seq) c.args.table.now.pended)

pub end_question-requires-clause-none : goal.end_question-requires-clause-none
end_question-requires-clause-none c =
    subst (λ t. opens_of (id_of t.boot c.args.question.now.id.seq) t.pended ≡ []) (sym c.answer_opens.ensures.table) (none-of_others (id_of c.args.table.now.boot c.args.question.now.id.seq) c.args.table.now.pended)

pub returns-in-Removed-clause-table : goal.returns-in-Removed-clause-table
returns-in-Removed-clause-table c =
    rw (c.in-Removed.is) (ends c.args.table.now c.answer_opens.new.table c.end_removed.new.self c.args.question.now None c.requires.runs c.answer_opens.ensures.table c.end_removed.ensures)

pub returns-in-Unsettled-clause-table : goal.returns-in-Unsettled-clause-table
returns-in-Unsettled-clause-table c =
    rw (c.in-Unsettled.is) (ends c.args.table.now c.answer_opens.new.table c.end_question.new.self c.args.question.now (Some Modified) c.requires.runs c.answer_opens.ensures.table c.end_question.ensures)
