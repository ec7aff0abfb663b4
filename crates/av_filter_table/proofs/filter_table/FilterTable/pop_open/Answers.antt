use Rattle.av_filter_table.proofs.RoomLemmas.{still-few}
use Rattle.av_filter_table.proofs.TableLemmas.{rows-kept, first-open}
use Rattle.av_filter_table.proofs.filter_table.FilterTable.pop_open.Goals as goal

pub invariant_of-self : goal.invariant_of-self
invariant_of-self c = record {
  rows = (rows-kept c.self.inside.boot c.self.inside.sequence c.self.inside.questions c.pop_first.new.questions c.self.inside.pended c.pop_first.new.pended c.self.inside.contexts c.self.invariant.rows c.pop_first.ensures.chained
      (c.pop_first.ensures.numbered c.self.invariant.rows.numbered)
      (λ n above. c.pop_first.ensures.fewer n (c.self.invariant.rows.unasked n above))
      c.pop_first.ensures.same);
  mounted = c.self.invariant.mounted;
  few = still-few c.self.inside.questions c.pop_first.new.questions c.self.inside.limits.questions c.pop_first.ensures.same c.self.invariant.few;
  sized = c.self.invariant.sized;
}

pub returns-clause-some : goal.returns-clause-some
returns-clause-some c = rw (← c.self.view_is) (first-open c.pop_first.result c.self.inside.boot c.self.inside.pended c.pop_first.new.pended c.pop_first.ensures.some)
