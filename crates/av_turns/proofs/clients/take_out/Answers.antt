use Rattle.std.proofs.Common.{arith, ◌≡◌, ◌<◌, ◌∙◌, ◌++◌, ap, sym, length, get_or, add-one, take, drop}
use Rattle.std.specs.List.{remove}
use Rattle.std.proofs.lemmas.Grind.{common_steps}
use Rattle.av_turns.proofs.RingLemmas.{removed_here}
use Rattle.av_turns.proofs.clients.take_out.Goals as goal

pub returns-then-index-number : goal.returns-then-index-number
returns-then-index-number c =
    let e = rw (c.remove.ensures.succeeds 0 (omega arith)) at c.remove.ensures.items in
    let inside : c.loop-at.at < length c.args.queue.now.items = grind (arith, common_steps, c.loop-at.invariant.0) in
    let here : get_or c.args.queue.now.items c.loop-at.at c.index.result.now ≡ c.args.number = ap (λ xs. get_or xs c.loop-at.at c.index.result.now) (sym c.loop-at.invariant.0) ∙ sym c.index.ensures ∙ c.if-index-number.true in
    let t = removed_here c.args.number c.loop-at.at c.index.result.now c.args.queue.now.items inside here c.loop-at.invariant.2 in
    e ∙ ap (λ xs. remove xs c.loop-at.at) c.loop-at.invariant.0 ∙ ap (λ i. take c.loop-at.at c.args.queue.now.items ++ drop i c.args.queue.now.items) (sym (add-one c.loop-at.at)) ∙ t
