use Rattle.std.proofs.Common.{◌≤◌, ◌+◌, ◌-◌, ◌*◌, ◌^◌, ◌≡◌, [], drop, arith, get_or, sym, ◌∙◌}
use Rattle.std.proofs.Math.ListN.{drop_of_length-le}
use Rattle.av_base.proofs.DecimalLemmas.{too_large, whole}
use Rattle.av_base.proofs.decimal.digits.Goals as goal

pub returns-in_err-checked_mul : goal.returns-in_err-checked_mul
returns-in_err-checked_mul c =
    let large : 2 ^ 64 ≤ c.loop-b.value * 10 + (get_or c.args.word.now c.loop-b.b-index 0 - 48) = omega (arith, c.in_err-checked_mul.ensures) in
    c.from_residual.ensures ∙ sym (too_large c.args.word.now c.loop-b.b-index c.loop-b.value c.loop-b-test.true c.loop-b.invariant.0 large)

pub returns-in_err-value : goal.returns-in_err-value
returns-in_err-value c =
    let large : 2 ^ 64 ≤ c.loop-b.value * 10 + (get_or c.args.word.now c.loop-b.b-index 0 - 48) = omega (arith, c.in_err-value.ensures, c.in_ok-checked_mul.ensures, c.from.ensures) in
    c.from_residual-in_err-value.ensures ∙ sym (too_large c.args.word.now c.loop-b.b-index c.loop-b.value c.loop-b-test.true c.loop-b.invariant.0 large)

pub returns : goal.returns
returns c =
    let ended : drop c.loop-b.b-index c.args.word.now ≡ [] = drop_of_length-le c.args.word.now c.loop-b-test.false in
    let value = rw ended at c.loop-b.invariant.0 in
    let all = rw ended at c.loop-b.invariant.1 in
    sym (whole c.args.word.now c.loop-b.value value c.loop-b.invariant.2 (sym all))
