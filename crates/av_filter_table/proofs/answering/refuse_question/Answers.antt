use Rattle.std.proofs.Common.{◌≡◌, [], IfSome, Some, sym, ap, subst}
use Rattle.av_filter_table.specs.Asking.{ended}
use Rattle.av_filter_table.specs.FilterTable.{id_of}
use Rattle.av_filter_table.specs.Table.{question_at, opens_of}
use Rattle.av_filter_table.proofs.TableLemmas.{none-of_others, refused-ended}
use Rattle.av_filter_table.proofs.answering.refuse_question.Goals as goal

pub end_question-requires-clause-none : goal.end_question-requires-clause-none
end_question-requires-clause-none c =
    subst (λ t. opens_of (id_of t.boot c.args.question) t.pended ≡ []) (sym c.refuse_opens.ensures.table) (none-of_others (id_of c.args.table.now.boot c.args.question) c.args.table.now.pended)

pub returns-clause-table : goal.returns-clause-table
returns-clause-table c =
    refused-ended c.args.table.now c.refuse_opens.new.table c.end_question.new.self (id_of c.args.table.now.boot c.args.question) (Some c.args.state) c.refuse_opens.ensures.table
    (subst (λ n. IfSome (question_at (id_of n c.args.question) c.refuse_opens.new.table.questions) (λ q. c.end_question.new.self ≡ ended c.refuse_opens.new.table q (Some c.args.state)))
    (ap (λ t. t.boot) c.refuse_opens.ensures.table) c.end_question.ensures)
