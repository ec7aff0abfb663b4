use Rattle.std.proofs.Common.{subst}
use Rattle.av_filter_table.proofs.OrderlyLemmas
use Rattle.av_filter_table.specs.Orderly.{IsOrderly}
use Rattle.av_filter_table.proofs.filter_table.FilterTable.boot.Goals as goal

pub returns-clause-orderly : goal.returns-clause-orderly
returns-clause-orderly c =
    let t = c.self.inside in
    let order = OrderlyLemmas.order t.boot t.questions c.len-numbers_ascend.ensures.ascend in
    let scanned = OrderlyLemmas.scanned t.boot t.sequence t.questions t.pended t.contexts c.self.invariant.rows c.len-numbers_ascend.ensures.ascend in
    subst IsOrderly c.self.view_is (record {
      rises = OrderlyLemmas.rises t.contexts c.len-streams_ascend.ensures.ascend;
      given = OrderlyLemmas.given t.boot t.sequence t.questions c.self.invariant.rows.counted c.self.invariant.rows.asked;
      order = order;
      apart = OrderlyLemmas.apart _ _ order scanned;
      scanned = scanned;
    })
