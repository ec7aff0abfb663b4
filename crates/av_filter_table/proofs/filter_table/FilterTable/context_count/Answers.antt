use Rattle.std.proofs.Common.{subst, sym, ◌∙◌}
use Rattle.av_numbered.specs.Numbered.{IsAscending}
use Rattle.av_filter_table.proofs.EndingLemmas.{states-ascend, length-states}
use Rattle.av_filter_table.proofs.filter_table.FilterTable.context_count.Goals as goal

pub returns-clause-len : goal.returns-clause-len
returns-clause-len c = rw (← c.self.view_is) (c.len.ensures.len ∙ sym (length-states c.self.inside.contexts))

pub returns-clause-ascend : goal.returns-clause-ascend
returns-clause-ascend c = subst (λ t. IsAscending t.contexts) c.self.view_is (states-ascend c.self.inside.contexts c.len.ensures.ascend)
