use Rattle.std.proofs.Common.{◌≡◌, ◌≤◌, ◌<◌, ◌+◌, ℕ, true, false, nat_le, sym, ap, subst, ◌∙◌, arith}
use Rattle.std.specs.Option.{option_map}
use Rattle.std.proofs.lemmas.Bool.Decides.{nat_tests}
use Rattle.av_numbered.proofs.MapLemmas.{none_some, some_same}
use Rattle.av_filter_table.proofs.WalkLemmas.{Walks, starts, more, goes, ends-walk}
use Rattle.av_filter_table.proofs.chains.has_rescan_left.Goals as goal

pub opens-init : goal.opens-init
opens-init c = starts c.args.question c.args.questions.now c.args.pended.now c.in-Some.asked c.len-opens_ascend.ensures.ascend c.requires.chained c.in-Some.ensures

pub unreachable-requires-in_default-next : goal.unreachable-requires-in_default-next
unreachable-requires-in_default-next c = more c.args.question c.opens.counter c.in-Some.asked.opens c.opens.next c.args.pended.now c.opens.invariant c.opens-test.true c.in_default-next.is

pub unreachable-requires-in_default-row : goal.unreachable-requires-in_default-row
unreachable-requires-in_default-row c =
    let g = goes c.args.question c.in-Some-next.number c.opens.counter c.in-Some.asked.opens c.opens.next c.args.pended.now c.opens.invariant c.in-Some-next.is in
    none_some (sym c.in_default-row.is ∙ (c.row-in-opens.ensures ∙ ap (option_map (λ p. p.0)) g.found))

pub unreachable-requires-in_default-value : goal.unreachable-requires-in_default-value
unreachable-requires-in_default-value c =
    let g = goes c.args.question c.in-Some-next.number c.opens.counter c.in-Some.asked.opens c.opens.next c.args.pended.now c.opens.invariant c.in-Some-next.is in
    none_some (c.in_default-value.ensures ∙ ap (option_map (λ p. p.1)) g.found)

left-test : (r : ℕ) → r < 8 → nat_le 8 r ≡ false
left-test r left = grind (arith, nat_tests)

spent-test : (r : ℕ) → 8 ≤ r → nat_le 8 r ≡ true
spent-test r spent = grind (arith, nat_tests)

pub returns-then-rescans-lt-MOST_RESCANS : goal.returns-then-rescans-lt-MOST_RESCANS
returns-then-rescans-lt-MOST_RESCANS c =
    let g = goes c.args.question c.in-Some-next.number c.opens.counter c.in-Some.asked.opens c.opens.next c.args.pended.now c.opens.invariant c.in-Some-next.is in
    let held = some_same c.in-Some-value.held.now g.value (c.in-Some-value.ensures ∙ ap (option_map (λ p. p.1)) g.found) in
    let rescans = c.rescans.ensures.value ∙ ap (λ w. w.rescans) held in
    sym (g.left (subst (λ r. nat_le 8 r ≡ false) rescans (left-test c.rescans.result c.if-rescans-lt-MOST_RESCANS.true)))

pub opens-preserved : goal.opens-preserved
opens-preserved c =
    let g = goes c.args.question c.in-Some-next.number c.opens.counter c.in-Some.asked.opens c.opens.next c.args.pended.now c.opens.invariant c.in-Some-next.is in
    let held = some_same c.in-Some-value.held.now g.value (c.in-Some-value.ensures ∙ ap (option_map (λ p. p.1)) g.found) in
    let rescans = c.rescans.ensures.value ∙ ap (λ w. w.rescans) held in
    let row = some_same c.in-Some-row.row g.row (c.in-Some-row.ensures ∙ ap (option_map (λ p. p.0)) g.found) in
    subst (λ r. Walks c.args.question r.next (c.opens.counter + 1) c.in-Some.asked.opens c.args.pended.now) (sym row)
    (g.on (subst (λ r. nat_le 8 r ≡ true) rescans (spent-test c.rescans.result c.if-rescans-lt-MOST_RESCANS.false)))

pub returns : goal.returns
returns c =
    let all : c.opens.counter ≡ c.in-Some.asked.opens = omega arith in
    sym (ends-walk c.args.question c.in-Some.asked.opens c.opens.next c.args.pended.now (subst (λ n. Walks c.args.question c.opens.next n c.in-Some.asked.opens c.args.pended.now) all c.opens.invariant))
