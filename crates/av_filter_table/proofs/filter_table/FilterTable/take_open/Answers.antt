use Rattle.std.proofs.Common.{IsSome, map, sym, ap, subst, ◌∙◌}
use Rattle.av_filter_table.specs.Chains.{plains}
use Rattle.av_filter_table.specs.FilterTable.{id_of, held_of}
use Rattle.av_filter_table.specs.Table.{question_at}
use Rattle.av_filter_table.proofs.RoomLemmas.{still-few}
use Rattle.av_filter_table.proofs.TableLemmas.{question-there, unasked-taken, rows-kept, none-opens, some-opens_of, other-opens}
use Rattle.av_filter_table.proofs.filter_table.FilterTable.take_open.Goals as goal

pub take_first-requires-clause-there : goal.take_first-requires-clause-there
take_first-requires-clause-there c =
    question-there c.self.inside.boot c.args.question c.self.inside.questions c.len-numbers_ascend.ensures.ascend
    (subst (λ t. IsSome (question_at (id_of t.boot c.args.question) t.questions)) (sym c.self.view_is) c.requires)

pub invariant_of-self : goal.invariant_of-self
invariant_of-self c = record {
  rows = (rows-kept c.self.inside.boot c.self.inside.sequence c.self.inside.questions c.take_first.new.questions c.self.inside.pended c.take_first.new.pended c.self.inside.contexts c.self.invariant.rows c.take_first.ensures.chained
      (c.take_first.ensures.numbered c.self.invariant.rows.numbered)
      (unasked-taken c.self.inside.boot c.self.inside.sequence c.args.question c.self.inside.questions c.self.inside.pended c.take_first.new.pended c.self.inside.contexts c.self.invariant.rows
      (question-there c.self.inside.boot c.args.question c.self.inside.questions c.len-numbers_ascend.ensures.ascend
      (subst (λ t. IsSome (question_at (id_of t.boot c.args.question) t.questions)) (sym c.self.view_is) c.requires)) c.take_first.ensures.others)
      c.take_first.ensures.same);
  mounted = c.self.invariant.mounted;
  few = still-few c.self.inside.questions c.take_first.new.questions c.self.inside.limits.questions c.take_first.ensures.same c.self.invariant.few;
  sized = c.self.invariant.sized;
}

pub returns-clause-none : goal.returns-clause-none
returns-clause-none c = rw (← c.self.view_is) (none-opens c.take_first.result c.self.inside.boot c.args.question c.self.inside.pended c.take_first.ensures.none)

pub returns-clause-some : goal.returns-clause-some
returns-clause-some c = rw (← c.self.view_is) (some-opens_of c.take_first.result c.self.inside.boot c.args.question c.self.inside.pended c.take_first.new.pended c.take_first.ensures.some)

pub returns-clause-others : goal.returns-clause-others
returns-clause-others c =
    let boot = c.self.inside.boot in
    rw (← c.self.view_is)
    (other-opens boot c.args.question (plains c.take_first.new.pended) ∙ (ap (map (held_of boot)) c.take_first.ensures.others ∙ sym (other-opens boot c.args.question (plains c.self.inside.pended))))
