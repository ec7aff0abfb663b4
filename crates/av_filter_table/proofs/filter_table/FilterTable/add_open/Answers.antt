use Rattle.std.proofs.Common.{◌<◌, IsSome, sym, subst, ◌∙◌}
use Rattle.std.specs.List.{AllByRecursion}
use Rattle.std.specs.Map.{keys_of}
use Rattle.av_filter_table.specs.FilterTable.{id_of, open_numbers}
use Rattle.av_filter_table.specs.Table.{question_at}
use Rattle.av_filter_table.proofs.RoomLemmas.{still-few}
use Rattle.av_filter_table.proofs.TableLemmas.{question-there, keys-below, numbered-result, unasked-result, rows-kept}
use Rattle.av_filter_table.proofs.filter_table.FilterTable.add_open.Goals as goal

pub append-requires-clause-there : goal.append-requires-clause-there
append-requires-clause-there c =
    question-there c.self.inside.boot c.args.question c.self.inside.questions c.len-numbers_ascend.ensures.ascend
    (subst (λ t. IsSome (question_at (id_of t.boot c.args.question) t.questions)) (sym c.self.view_is) c.requires.there)

pub append-requires-clause-last : goal.append-requires-clause-last
append-requires-clause-last c =
    let number = c.get-number.ensures ∙ c.open_id.ensures in
    subst (λ n. AllByRecursion (λ k. k < n) (keys_of c.self.inside.pended)) (sym number)
    (keys-below c.self.inside.boot c.args.held.open_id c.self.inside.pended c.self.invariant.rows.numbered
    (subst (λ t. AllByRecursion (λ n. n < c.args.held.open_id) (open_numbers t.pended)) (sym c.self.view_is) c.requires.last))

pub invariant_of-self : goal.invariant_of-self
invariant_of-self c = record {
  rows = (rows-kept c.self.inside.boot c.self.inside.sequence c.self.inside.questions c.append.new.questions c.self.inside.pended c.append.new.pended c.self.inside.contexts c.self.invariant.rows c.append.ensures.chained
      (numbered-result c.append.result c.args.question c.get-number.result c.args.held c.self.inside.questions c.append.new.questions c.self.inside.pended c.append.new.pended c.self.invariant.rows.numbered
      (c.get-number.ensures ∙ c.open_id.ensures) c.append.ensures.ok c.append.ensures.keys c.append.ensures.err)
      (unasked-result c.append.result c.self.inside.boot c.self.inside.sequence c.args.question c.args.held c.self.inside.questions c.append.new.questions c.self.inside.pended c.append.new.pended c.self.inside.contexts c.self.invariant.rows
      (question-there c.self.inside.boot c.args.question c.self.inside.questions c.len-numbers_ascend.ensures.ascend
      (subst (λ t. IsSome (question_at (id_of t.boot c.args.question) t.questions)) (sym c.self.view_is) c.requires.there)) c.append.ensures.ok c.append.ensures.err)
      c.append.ensures.same);
  mounted = c.self.invariant.mounted;
  few = still-few c.self.inside.questions c.append.new.questions c.self.inside.limits.questions c.append.ensures.same c.self.invariant.few;
  sized = c.self.invariant.sized;
}
