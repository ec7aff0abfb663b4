use Rattle.std.proofs.Common.{IsSome, sym, subst, ◌∙◌}
use Rattle.av_filter_table.specs.Chains.{plains}
use Rattle.av_filter_table.specs.FilterTable.{id_of}
use Rattle.av_filter_table.specs.Table.{question_at}
use Rattle.av_filter_table.proofs.EndingLemmas.{any-held}
use Rattle.av_filter_table.proofs.TableLemmas.{question-there}
use Rattle.av_filter_table.proofs.filter_table.FilterTable.has_rescan_left.Goals as goal

pub has_rescan_left-requires-clause-there : goal.has_rescan_left-requires-clause-there
has_rescan_left-requires-clause-there c =
    question-there c.self.inside.boot c.args.question c.self.inside.questions c.len-numbers_ascend.ensures.ascend
    (subst (λ t. IsSome (question_at (id_of t.boot c.args.question) t.questions)) (sym c.self.view_is) c.requires)

pub has_rescan_left-requires-clause-chained : goal.has_rescan_left-requires-clause-chained
has_rescan_left-requires-clause-chained c = c.self.invariant.rows.chained

pub returns : goal.returns
returns c = rw (← c.self.view_is) (c.has_rescan_left.ensures ∙ any-held c.self.inside.boot c.args.question (plains c.self.inside.pended))
