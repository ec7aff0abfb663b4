use Rattle.std.proofs.Common.{ℕ, ◌≡◌, ◌<◌, Option, None, Some, IsSomeAnd, refl, sym, ap, subst, ◌∙◌}
use Rattle.std.specs.Option.{option_map}
use Rattle.av_context.specs.Contexts.{at, PutsAt}
use Rattle.av_filter_table.specs.Chains.{first_waiting, plains}
use Rattle.av_pend.specs.Waiting.{Waiting}
use Rattle.av_filter_table.specs.Chains.{once_more}
use Rattle.av_filter_table.proofs.ChainLemmas.{few-opens, some-opens}
use Rattle.av_numbered.proofs.MapLemmas.{none_some, if_some, row_found}
use Rattle.av_filter_table.proofs.MovingLemmas.{waiting-none, first_row, moved, moved-link, numbered-moved, exchanged-at, left_rescans}
use Rattle.av_filter_table.proofs.chains.move_first.Goals as goal

pub unreachable-requires-in_default-first : goal.unreachable-requires-in_default-first
unreachable-requires-in_default-first c =
    no_some (first_waiting c.args.old (plains c.args.pended.now)) (waiting-none c.args.old c.args.questions.now c.args.pended.now c.in-Some.from c.requires.chained c.in-Some.ensures c.in_default-first.is) c.requires.left
  where
    no_some : (o : Option (ℕ × Waiting)) → o ≡ None → IsSomeAnd o (λ x. x.1.rescans < 8) → ⊥
    no_some None none holds = holds
    no_some (Some x) none holds = none_some (sym none)

pub unreachable-requires-in_default-row-2 : goal.unreachable-requires-in_default-row-2
unreachable-requires-in_default-row-2 c =
    let r = first_row c.args.old c.in-Some-first.first c.args.questions.now c.args.pended.now c.in-Some.from c.len-few.ensures.ascend c.requires.chained c.in-Some.ensures c.in-Some-first.is in
    none_some (c.in_default-row-2.ensures ∙ ap (option_map (λ p. p.0)) r.found)

pub shorter-requires : goal.shorter-requires
shorter-requires c = some-opens c.args.old c.in-Some-first.first c.args.questions.now c.args.pended.now c.in-Some.from c.len-few.ensures.ascend c.requires.chained c.in-Some.ensures c.in-Some-first.is

pub longer-requires : goal.longer-requires
longer-requires c = few-opens c.args.new 9223372036854775808 c.args.questions.now c.args.pended.now c.in-Some-row.to c.requires.chained c.in-Some-row.ensures c.len-few.ensures.small

pub exchange-requires-clause-callable : goal.exchange-requires-clause-callable
exchange-requires-clause-callable c = if_some _ (at c.args.pended.now c.in-Some-first.first) (λ p at_p. left_rescans c.args.old c.in-Some-first.first c.args.pended.now p at_p (first_row c.args.old c.in-Some-first.first c.args.questions.now c.args.pended.now c.in-Some.from c.len-few.ensures.ascend c.requires.chained c.in-Some.ensures c.in-Some-first.is) c.requires.left)

pub link-requires : goal.link-requires
link-requires c =
    let r = first_row c.args.old c.in-Some-first.first c.args.questions.now c.args.pended.now c.in-Some.from c.len-few.ensures.ascend c.requires.chained c.in-Some.ensures c.in-Some-first.is in
    let put : PutsAt c.args.pended.now c.exchange.new.self c.in-Some-first.first (Some (record { question = c.args.new; next = None }, once_more r.value)) =
    exchanged-at c.args.pended.now c.exchange.new.self c.in-Some-first.first (record { question = c.args.new; next = None }) r.row r.value _ (λ u w h. h) r.found c.exchange.ensures in
    moved-link c.args.old c.args.new c.in-Some-first.first c.args.questions.now c.args.pended.now c.exchange.new.self c.in-Some.from c.in-Some-row.to (once_more r.value) c.requires.apart c.len-few.ensures.ascend c.requires.chained c.in-Some.ensures c.in-Some-row.ensures c.in-Some-first.is put

pub returns-clause-moved : goal.returns-clause-moved
returns-clause-moved c =
    let held = row_found (at c.args.pended.now c.in-Some-first.first) c.in-Some-row-2.row c.in-Some-row-2.ensures in
    let put : PutsAt c.args.pended.now c.exchange.new.self c.in-Some-first.first (Some (record { question = c.args.new; next = None }, once_more held.0)) =
    exchanged-at c.args.pended.now c.exchange.new.self c.in-Some-first.first (record { question = c.args.new; next = None }) c.in-Some-row-2.row held.0 _ (λ u w h. h) held.1 c.exchange.ensures in
    (moved c.args.old c.args.new c.in-Some-first.first c.args.questions.now c.set_row.new.self c.set_row-2.new.self c.args.pended.now c.exchange.new.self c.link.new.pended c.in-Some.from c.in-Some-row.to c.in-Some-row-2.row held.0 (once_more held.0)
    c.requires.apart c.len-ascend.ensures.ascend c.len-few.ensures.ascend c.requires.chained c.requires.behind c.in-Some.ensures c.in-Some-row.ensures c.in-Some-first.is held.1 refl put c.link.ensures.none c.link.ensures.some
    (subst (λ x. PutsAt c.args.questions.now c.set_row.new.self c.args.old (option_map (λ y. (x, y.1)) (at c.args.questions.now c.args.old))) c.shorter.ensures c.set_row.ensures)
    (subst (λ x. PutsAt c.set_row.new.self c.set_row-2.new.self c.args.new (option_map (λ y. (x, y.1)) (at c.set_row.new.self c.args.new))) c.longer.ensures c.set_row-2.ensures)).moved

pub returns-clause-chained : goal.returns-clause-chained
returns-clause-chained c =
    let held = row_found (at c.args.pended.now c.in-Some-first.first) c.in-Some-row-2.row c.in-Some-row-2.ensures in
    let put : PutsAt c.args.pended.now c.exchange.new.self c.in-Some-first.first (Some (record { question = c.args.new; next = None }, once_more held.0)) =
    exchanged-at c.args.pended.now c.exchange.new.self c.in-Some-first.first (record { question = c.args.new; next = None }) c.in-Some-row-2.row held.0 _ (λ u w h. h) held.1 c.exchange.ensures in
    (moved c.args.old c.args.new c.in-Some-first.first c.args.questions.now c.set_row.new.self c.set_row-2.new.self c.args.pended.now c.exchange.new.self c.link.new.pended c.in-Some.from c.in-Some-row.to c.in-Some-row-2.row held.0 (once_more held.0)
    c.requires.apart c.len-ascend.ensures.ascend c.len-few.ensures.ascend c.requires.chained c.requires.behind c.in-Some.ensures c.in-Some-row.ensures c.in-Some-first.is held.1 refl put c.link.ensures.none c.link.ensures.some
    (subst (λ x. PutsAt c.args.questions.now c.set_row.new.self c.args.old (option_map (λ y. (x, y.1)) (at c.args.questions.now c.args.old))) c.shorter.ensures c.set_row.ensures)
    (subst (λ x. PutsAt c.set_row.new.self c.set_row-2.new.self c.args.new (option_map (λ y. (x, y.1)) (at c.set_row.new.self c.args.new))) c.longer.ensures c.set_row-2.ensures)).chained

pub returns-clause-same : goal.returns-clause-same
returns-clause-same c =
    let held = row_found (at c.args.pended.now c.in-Some-first.first) c.in-Some-row-2.row c.in-Some-row-2.ensures in
    let put : PutsAt c.args.pended.now c.exchange.new.self c.in-Some-first.first (Some (record { question = c.args.new; next = None }, once_more held.0)) =
    exchanged-at c.args.pended.now c.exchange.new.self c.in-Some-first.first (record { question = c.args.new; next = None }) c.in-Some-row-2.row held.0 _ (λ u w h. h) held.1 c.exchange.ensures in
    (moved c.args.old c.args.new c.in-Some-first.first c.args.questions.now c.set_row.new.self c.set_row-2.new.self c.args.pended.now c.exchange.new.self c.link.new.pended c.in-Some.from c.in-Some-row.to c.in-Some-row-2.row held.0 (once_more held.0)
    c.requires.apart c.len-ascend.ensures.ascend c.len-few.ensures.ascend c.requires.chained c.requires.behind c.in-Some.ensures c.in-Some-row.ensures c.in-Some-first.is held.1 refl put c.link.ensures.none c.link.ensures.some
    (subst (λ x. PutsAt c.args.questions.now c.set_row.new.self c.args.old (option_map (λ y. (x, y.1)) (at c.args.questions.now c.args.old))) c.shorter.ensures c.set_row.ensures)
    (subst (λ x. PutsAt c.set_row.new.self c.set_row-2.new.self c.args.new (option_map (λ y. (x, y.1)) (at c.set_row.new.self c.args.new))) c.longer.ensures c.set_row-2.ensures)).same

pub returns-clause-numbered : goal.returns-clause-numbered
returns-clause-numbered c = λ numbered.
    let held = row_found (at c.args.pended.now c.in-Some-first.first) c.in-Some-row-2.row c.in-Some-row-2.ensures in
    let put : PutsAt c.args.pended.now c.exchange.new.self c.in-Some-first.first (Some (record { question = c.args.new; next = None }, once_more held.0)) =
    exchanged-at c.args.pended.now c.exchange.new.self c.in-Some-first.first (record { question = c.args.new; next = None }) c.in-Some-row-2.row held.0 _ (λ u w h. h) held.1 c.exchange.ensures in
    let m = (moved c.args.old c.args.new c.in-Some-first.first c.args.questions.now c.set_row.new.self c.set_row-2.new.self c.args.pended.now c.exchange.new.self c.link.new.pended c.in-Some.from c.in-Some-row.to c.in-Some-row-2.row held.0 (once_more held.0)
    c.requires.apart c.len-ascend.ensures.ascend c.len-few.ensures.ascend c.requires.chained c.requires.behind c.in-Some.ensures c.in-Some-row.ensures c.in-Some-first.is held.1 refl put c.link.ensures.none c.link.ensures.some
    (subst (λ x. PutsAt c.args.questions.now c.set_row.new.self c.args.old (option_map (λ y. (x, y.1)) (at c.args.questions.now c.args.old))) c.shorter.ensures c.set_row.ensures)
    (subst (λ x. PutsAt c.set_row.new.self c.set_row-2.new.self c.args.new (option_map (λ y. (x, y.1)) (at c.set_row.new.self c.args.new))) c.longer.ensures c.set_row-2.ensures)) in
    numbered-moved c.args.old c.args.new c.args.pended.now c.link.new.pended numbered m.keys m.moved
