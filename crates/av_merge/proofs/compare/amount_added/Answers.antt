use Rattle.std.proofs.Common.{◌≡◌, true, sym, ◌∙◌, arith}
use Rattle.av_merge.proofs.AddLemmas.{bytes_next, short_added}
use Rattle.av_merge.specs.Merge.{is_new}
use Rattle.av_merge.proofs.compare.amount_added.Goals as goal

pub overflow_add-bytes : goal.overflow_add-bytes
overflow_add-bytes c =
    let d = c.signature-item.result in
    let new : is_new c.args.before.now d ≡ true = sym c.is_new.ensures ∙ c.if-is_new.true in
    let next = bytes_next c.args.before.now c.args.given.now c.loop-signature.signature-index d c.loop-signature-test.true c.signature-item.is new in
    omega (arith, next, c.len-bytes.ensures.len, c.loop-signature.invariant.1, short_added c.args.before.now c.args.given.now, c.requires)
