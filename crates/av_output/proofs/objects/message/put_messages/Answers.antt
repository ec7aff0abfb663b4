use Rattle.std.proofs.Common.{rules, ◌≡◌, ◌+◌, ◌++◌, arith, ap, sym, ◌∙◌, append_assoc, take, suc, get_or}
use Rattle.av_output.proofs.PlacedLemmas.{placed_next}
use Rattle.av_output.specs.Objects.Messages.{message_tokens}
use Rattle.av_output.specs.Text.Messages.{placed}
use Rattle.av_output.proofs.objects.message.put_messages.Goals as goal

pub loop-index-preserved : goal.loop-index-preserved
loop-index-preserved c =
    let f = message_tokens c.args.way in
    let first = c.args.from + 1 in
    let at = c.loop-index.index in
    let one = c.message-item.result in
    let items = c.part-message-items.result.now in
    let place : c.args.from + at + 1 ≡ first + at = omega arith in
    let next : suc at ≡ at + 1 = omega arith in
    let before : c.put_message.new.line.before ≡ c.loop-index.line.before = search rules in
    let put : c.put_message.new.line.tokens ≡ c.loop-index.line.tokens ++ f (c.args.from + at + 1) one = search rules in
    let told = ap (λ n. f n one) place ∙ ap (f (first + at)) c.message-item.is in (
      before ∙ c.loop-index.invariant.0,
      put ∙ ap (λ t. c.loop-index.line.tokens ++ t) told ∙ ap (λ t. t ++ f (first + at) (get_or items at one)) c.loop-index.invariant.1
          ∙ append_assoc c.args.line.now.tokens (placed f first (take at items)) (f (first + at) (get_or items at one))
          ∙ ap (λ t. c.args.line.now.tokens ++ t)
          (sym (placed_next f first items at one c.loop-index-test.true) ∙ ap (λ n. placed f first (take n items)) next),
    )
