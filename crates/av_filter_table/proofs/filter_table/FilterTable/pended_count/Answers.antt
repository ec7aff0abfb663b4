use Rattle.std.proofs.Common.{sym, subst, ◌∙◌}
use Rattle.av_filter_table.specs.Chains.{plains}
use Rattle.av_filter_table.specs.FilterTable.{IsRising, open_numbers}
use Rattle.av_filter_table.proofs.TableLemmas.{numbers-pended, rising}
use Rattle.std.specs.Map.{keys_of}
use Rattle.av_filter_table.proofs.filter_table.FilterTable.pended_count.Goals as goal

pub returns-clause-ascend : goal.returns-clause-ascend
returns-clause-ascend c =
    subst (λ t. IsRising (open_numbers t.pended)) c.self.view_is
    (subst IsRising (c.self.invariant.rows.numbered ∙ sym (numbers-pended c.self.inside.boot (plains c.self.inside.pended))) (rising (keys_of c.self.inside.pended) c.len.ensures.ascend))
