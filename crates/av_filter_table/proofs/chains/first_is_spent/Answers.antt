use Rattle.std.proofs.Common.{sym, ap, ◌∙◌}
use Rattle.std.specs.Option.{option_map}
use Rattle.av_filter_table.specs.Chains.{is_spent}
use Rattle.av_numbered.proofs.MapLemmas.{none_some}
use Rattle.av_filter_table.proofs.MovingLemmas.{waiting-none, waiting-some, first_row}
use Rattle.av_filter_table.proofs.chains.first_is_spent.Goals as goal

pub returns-in_err-first : goal.returns-in_err-first
returns-in_err-first c = c.from_residual.ensures ∙ sym (ap (option_map is_spent) (waiting-none c.args.question c.args.questions.now c.args.pended.now c.in-Some.asked c.requires.chained c.in-Some.ensures c.in_err-first.was))

pub unreachable-requires-in_default-value : goal.unreachable-requires-in_default-value
unreachable-requires-in_default-value c =
    let r = first_row c.args.question c.in_ok-first.first c.args.questions.now c.args.pended.now c.in-Some.asked c.len-opens_ascend.ensures.ascend c.requires.chained c.in-Some.ensures c.in_ok-first.was in
    none_some (c.in_default-value.ensures ∙ ap (option_map (λ p. p.1)) r.found)

pub returns : goal.returns
returns c =
    let r = first_row c.args.question c.in_ok-first.first c.args.questions.now c.args.pended.now c.in-Some.asked c.len-opens_ascend.ensures.ascend c.requires.chained c.in-Some.ensures c.in_ok-first.was in
    waiting-some c.args.question c.args.pended.now c.in-Some-value.held.now c.rescans.result r.value r.row.question c.rescans.ensures.value (c.in-Some-value.ensures ∙ ap (option_map (λ p. p.1)) r.found) r.waiting
