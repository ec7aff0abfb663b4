use Rattle.std.proofs.Common.{◌≡◌, Option, IsSome, Some, None, sym, subst}
use Rattle.std.specs.Option.{option_map}
use Rattle.av_filter_table.specs.FilterTable.{id_of}
use Rattle.av_filter_table.specs.Table.{question_at}
use Rattle.av_filter_table.proofs.TableLemmas.{count-opens, question-there}
use Rattle.av_context.specs.Contexts.{at}
use Rattle.av_filter_table.proofs.filter_table.FilterTable.opens_of.Goals as goal

pub unreachable-requires : goal.unreachable-requires
unreachable-requires c =
    no_row (at c.self.inside.questions c.args.question) (sym c.in_default.ensures)
    (question-there c.self.inside.boot c.args.question c.self.inside.questions c.len-numbers_ascend.ensures.ascend
    (subst (λ t. IsSome (question_at (id_of t.boot c.args.question) t.questions)) (sym c.self.view_is) c.requires))
  where
    no_row : {A B : Type 0} (o : Option (A × B)) → option_map (λ y. y.0) o ≡ None → IsSome o → ⊥
    no_row None none some = absurd (cc)
    no_row (Some y) none some = absurd (cc)

pub returns : goal.returns
returns c = rw (← c.self.view_is) (count-opens c.self.inside.boot c.args.question c.self.inside.questions c.self.inside.pended c.in-Some.asked c.self.invariant.rows.chained c.in-Some.ensures)
