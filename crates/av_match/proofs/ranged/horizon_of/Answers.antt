use Rattle.std.proofs.Common.{◌≡◌, ◌+◌, ◌∷◌, [], nat_lt, ◌&&◌, drop, arith, sym, ap, ◌∙◌}
use Rattle.std.proofs.lemmas.List.{drop_all, drop_more}
use Rattle.av_match.specs.Scanning.{is_past}
use Rattle.av_match.proofs.FindLemmas.{horizon_all, horizon_more, horizon_none}
use Rattle.av_match.proofs.ranged.horizon_of.Goals as goal
use Rattle.av_match.proofs.ranged.horizon_of.Goals.{then-horizon-last, else-horizon-last}

pub returns-then-pattern-ge-MAX_PLACE : goal.returns-then-pattern-ge-MAX_PLACE
returns-then-pattern-ge-MAX_PLACE c = λ e some.
    let left : drop c.loop-pattern.pattern-index c.args.patterns.now ≡ c.pattern-item.result ∷ drop (c.loop-pattern.pattern-index + 1) c.args.patterns.now = drop_more c.args.patterns.now c.loop-pattern.pattern-index c.pattern-item.result c.loop-pattern-test.true ∙ ap (λ p. p ∷ drop (c.loop-pattern.pattern-index + 1) c.args.patterns.now) (sym c.pattern-item.is) in
    c.loop-pattern.invariant e some ∙ ap (λ ps. nat_lt c.loop-pattern.horizon e && is_past ps e) left ∙ horizon_none (drop (c.loop-pattern.pattern-index + 1) c.args.patterns.now) c.pattern-item.result c.loop-pattern.horizon e c.if-pattern-ge-MAX_PLACE.true

pub loop-pattern-preserved : goal.loop-pattern-preserved
loop-pattern-preserved c = λ e some.
    let left : drop c.loop-pattern.pattern-index c.args.patterns.now ≡ c.pattern-item.result ∷ drop (c.loop-pattern.pattern-index + 1) c.args.patterns.now = drop_more c.args.patterns.now c.loop-pattern.pattern-index c.pattern-item.result c.loop-pattern-test.true ∙ ap (λ p. p ∷ drop (c.loop-pattern.pattern-index + 1) c.args.patterns.now) (sym c.pattern-item.is) in
    c.loop-pattern.invariant e some ∙ ap (λ ps. nat_lt c.loop-pattern.horizon e && is_past ps e) left
    ∙ (elim c.if-horizon-last.branch [
      | then-horizon-last w ↦ horizon_more (drop (c.loop-pattern.pattern-index + 1) c.args.patterns.now) c.pattern-item.result c.loop-pattern.horizon c.if-horizon-last.horizon e c.if-pattern-ge-MAX_PLACE.false (λ up. omega (arith, w.horizon-is, c.len.ensures.len)) (λ down. omega (arith, w.horizon-is, w.if-horizon-last.true, c.len.ensures.len))
      | else-horizon-last w ↦ horizon_more (drop (c.loop-pattern.pattern-index + 1) c.args.patterns.now) c.pattern-item.result c.loop-pattern.horizon c.if-horizon-last.horizon e c.if-pattern-ge-MAX_PLACE.false (λ up. omega (arith, w.horizon-is, w.if-horizon-last.false, c.len.ensures.len)) (λ down. omega (arith, w.horizon-is))
    ])

pub returns : goal.returns
returns c = λ e some.
    let left : drop c.loop-pattern.pattern-index c.args.patterns.now ≡ [] = drop_all c.loop-pattern.pattern-index c.args.patterns.now c.loop-pattern-test.false in
    c.loop-pattern.invariant e some ∙ ap (λ ps. nat_lt c.loop-pattern.horizon e && is_past ps e) left ∙ horizon_all c.loop-pattern.horizon e
