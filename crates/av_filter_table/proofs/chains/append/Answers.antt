use Rattle.std.proofs.Common.{subst}
use Rattle.std.specs.Option.{option_map}
use Rattle.av_context.specs.Contexts.{at, PutsAt}
use Rattle.av_numbered.proofs.MapLemmas.{none-past}
use Rattle.av_filter_table.proofs.ChainLemmas.{appended, link-there, few-opens}
use Rattle.av_filter_table.proofs.chains.append.Goals as goal

pub insert-requires : goal.insert-requires
insert-requires c = none-past c.args.pended.now c.args.number c.requires.last

pub link-requires : goal.link-requires
link-requires c = link-there c.args.question c.args.number c.args.held c.args.questions.now c.args.pended.now c.insert.new.self c.in-Some.asked c.len-few.ensures.ascend c.requires.chained c.in-Some.ensures c.requires.last c.in_ok-insert.ensures.ok

pub longer-requires : goal.longer-requires
longer-requires c = few-opens c.args.question 9223372036854775808 c.args.questions.now c.args.pended.now c.in-Some.asked c.requires.chained c.in-Some.ensures c.len-few.ensures.small

pub returns-clause-ok : goal.returns-clause-ok
returns-clause-ok c = (appended c.args.question c.args.number c.args.held c.args.questions.now c.set_row.new.self c.args.pended.now c.insert.new.self c.link.new.pended c.in-Some.asked
    c.len-ascend.ensures.ascend c.len-few.ensures.ascend c.requires.chained c.requires.last c.in-Some.ensures c.in_ok-insert.ensures.ok c.link.ensures.none c.link.ensures.some
    (subst (λ x. PutsAt c.args.questions.now c.set_row.new.self c.args.question (option_map (λ y. (x, y.1)) (at c.args.questions.now c.args.question))) c.longer.ensures c.set_row.ensures)).some

pub returns-clause-keys : goal.returns-clause-keys
returns-clause-keys c = (appended c.args.question c.args.number c.args.held c.args.questions.now c.set_row.new.self c.args.pended.now c.insert.new.self c.link.new.pended c.in-Some.asked
    c.len-ascend.ensures.ascend c.len-few.ensures.ascend c.requires.chained c.requires.last c.in-Some.ensures c.in_ok-insert.ensures.ok c.link.ensures.none c.link.ensures.some
    (subst (λ x. PutsAt c.args.questions.now c.set_row.new.self c.args.question (option_map (λ y. (x, y.1)) (at c.args.questions.now c.args.question))) c.longer.ensures c.set_row.ensures)).keys

pub returns-clause-chained : goal.returns-clause-chained
returns-clause-chained c = (appended c.args.question c.args.number c.args.held c.args.questions.now c.set_row.new.self c.args.pended.now c.insert.new.self c.link.new.pended c.in-Some.asked
    c.len-ascend.ensures.ascend c.len-few.ensures.ascend c.requires.chained c.requires.last c.in-Some.ensures c.in_ok-insert.ensures.ok c.link.ensures.none c.link.ensures.some
    (subst (λ x. PutsAt c.args.questions.now c.set_row.new.self c.args.question (option_map (λ y. (x, y.1)) (at c.args.questions.now c.args.question))) c.longer.ensures c.set_row.ensures)).chained

pub returns-clause-same : goal.returns-clause-same
returns-clause-same c = (appended c.args.question c.args.number c.args.held c.args.questions.now c.set_row.new.self c.args.pended.now c.insert.new.self c.link.new.pended c.in-Some.asked
    c.len-ascend.ensures.ascend c.len-few.ensures.ascend c.requires.chained c.requires.last c.in-Some.ensures c.in_ok-insert.ensures.ok c.link.ensures.none c.link.ensures.some
    (subst (λ x. PutsAt c.args.questions.now c.set_row.new.self c.args.question (option_map (λ y. (x, y.1)) (at c.args.questions.now c.args.question))) c.longer.ensures c.set_row.ensures)).same
