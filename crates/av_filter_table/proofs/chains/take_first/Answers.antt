use Rattle.std.proofs.Common.{sym, ap, subst, ◌∙◌}
use Rattle.std.specs.Option.{option_map}
use Rattle.av_context.specs.Contexts.{at, PutsAt}
use Rattle.av_filter_table.specs.FilterTable.{AreNumbered}
use Rattle.av_numbered.proofs.MapLemmas.{not_there, is_there}
use Rattle.av_filter_table.proofs.ChainLemmas.{taken, first-there, some-opens, no-opens, numbered-without}
use Rattle.av_filter_table.specs.Chains.{plains}
use Rattle.av_filter_table.proofs.MovingLemmas.{rest-popped}
use Rattle.av_filter_table.proofs.chains.take_first.Goals as goal

pub returns-in_err-first-clause-none : goal.returns-in_err-first-clause-none
returns-in_err-first-clause-none c =
    rw (c.from_residual.ensures) (no-opens c.args.question c.args.questions.now c.args.pended.now c.in-Some.asked c.requires.chained c.in-Some.ensures c.in_err-first.was)

pub unreachable-requires-in_default-remove : goal.unreachable-requires-in_default-remove
unreachable-requires-in_default-remove c =
    let pop = first-there c.args.question c.in_ok-first.first c.args.questions.now c.args.pended.now c.in-Some.asked c.len-opens_ascend.ensures.ascend c.requires.chained c.in-Some.ensures c.in_ok-first.was in
    not_there (at c.args.pended.now c.in_ok-first.first) (sym c.in_default-remove.ensures.value) (is_there (at c.args.pended.now c.in_ok-first.first) (pop.row, pop.value) pop.found)

pub shorter-requires : goal.shorter-requires
shorter-requires c = some-opens c.args.question c.in_ok-first.first c.args.questions.now c.args.pended.now c.in-Some.asked c.len-opens_ascend.ensures.ascend c.requires.chained c.in-Some.ensures c.in_ok-first.was

pub returns-clause-some : goal.returns-clause-some
returns-clause-some c = (taken c.args.question c.in_ok-first.first c.args.questions.now c.set_row.new.self c.args.pended.now c.remove.new.self c.in-Some.asked c.in-Some-remove.row c.in-Some-remove.held
    c.len-ascend.ensures.ascend c.len-opens_ascend.ensures.ascend c.requires.chained c.in-Some.ensures c.in_ok-first.was c.in-Some-remove.ensures.value c.remove.ensures.puts.whole
    (subst (λ x. PutsAt c.args.questions.now c.set_row.new.self c.args.question (option_map (λ y. (x, y.1)) (at c.args.questions.now c.args.question))) c.shorter.ensures c.set_row.ensures)).some

pub returns-clause-others : goal.returns-clause-others
returns-clause-others c = (taken c.args.question c.in_ok-first.first c.args.questions.now c.set_row.new.self c.args.pended.now c.remove.new.self c.in-Some.asked c.in-Some-remove.row c.in-Some-remove.held
    c.len-ascend.ensures.ascend c.len-opens_ascend.ensures.ascend c.requires.chained c.in-Some.ensures c.in_ok-first.was c.in-Some-remove.ensures.value c.remove.ensures.puts.whole
    (subst (λ x. PutsAt c.args.questions.now c.set_row.new.self c.args.question (option_map (λ y. (x, y.1)) (at c.args.questions.now c.args.question))) c.shorter.ensures c.set_row.ensures)).of_others

pub returns-clause-chained : goal.returns-clause-chained
returns-clause-chained c = (taken c.args.question c.in_ok-first.first c.args.questions.now c.set_row.new.self c.args.pended.now c.remove.new.self c.in-Some.asked c.in-Some-remove.row c.in-Some-remove.held
    c.len-ascend.ensures.ascend c.len-opens_ascend.ensures.ascend c.requires.chained c.in-Some.ensures c.in_ok-first.was c.in-Some-remove.ensures.value c.remove.ensures.puts.whole
    (subst (λ x. PutsAt c.args.questions.now c.set_row.new.self c.args.question (option_map (λ y. (x, y.1)) (at c.args.questions.now c.args.question))) c.shorter.ensures c.set_row.ensures)).chained

pub returns-clause-same : goal.returns-clause-same
returns-clause-same c = (taken c.args.question c.in_ok-first.first c.args.questions.now c.set_row.new.self c.args.pended.now c.remove.new.self c.in-Some.asked c.in-Some-remove.row c.in-Some-remove.held
    c.len-ascend.ensures.ascend c.len-opens_ascend.ensures.ascend c.requires.chained c.in-Some.ensures c.in_ok-first.was c.in-Some-remove.ensures.value c.remove.ensures.puts.whole
    (subst (λ x. PutsAt c.args.questions.now c.set_row.new.self c.args.question (option_map (λ y. (x, y.1)) (at c.args.questions.now c.args.question))) c.shorter.ensures c.set_row.ensures)).same

pub returns-clause-numbered : goal.returns-clause-numbered
returns-clause-numbered c = λ numbered. subst AreNumbered (sym c.remove.ensures.puts.whole) (numbered-without c.args.pended.now c.in_ok-first.first numbered)

pub returns-clause-rest : goal.returns-clause-rest
returns-clause-rest c = ap plains c.remove.ensures.puts.whole ∙ rest-popped c.args.question c.in_ok-first.first c.args.questions.now c.args.pended.now c.in-Some.asked c.len-opens_ascend.ensures.ascend c.requires.chained c.in-Some.ensures c.in_ok-first.was
