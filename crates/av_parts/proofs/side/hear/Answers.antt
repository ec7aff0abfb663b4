use Rattle.std.proofs.Common.{◌≤◌, arith, length, subst}
use Rattle.std.proofs.lemmas.List.{length-drop, take_rest}
use Rattle.av_parts.specs.Steps.{HearsFront}
use Rattle.av_parts.proofs.ServingLemmas.{front_nothing, front_then}
use Rattle.av_parts.proofs.side.hear.Goals as goal

pub orders-init : goal.orders-init
orders-init c = (omega arith, front_nothing _ _ _ _)

pub orders-preserved : goal.orders-preserved
orders-preserved c =
    let rest = take_rest c.args.piece.now c.orders.at in
    let within = subst (λ p. c.in-Ok.taken ≤ length p) rest c.in-Ok.ensures.within in
    let len = length-drop c.orders.at c.args.piece.now in (
      omega (arith, within, len, c.orders.invariant.0),
      front_then c.orders.invariant.1
          (subst (λ p. HearsFront c.in-Ok.taken p c.orders.side.orders c.hear_first.new.self.orders c.orders.side.judge c.hear_first.new.self.judge c.orders.side.waits.items c.hear_first.new.self.waits.items)
          rest c.in-Ok.ensures.ok),
    )
