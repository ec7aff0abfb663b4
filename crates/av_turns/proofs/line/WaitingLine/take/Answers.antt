use Rattle.std.proofs.Common.{arith, ◌≡◌, ◌∷◌, ◌++◌, [], drop, sym, subst}
use Rattle.std.proofs.lemmas.Grind.{common_steps}
use Rattle.av_turns.specs.Line.{IsOrdered}
use Rattle.av_turns.proofs.LineLemmas.{turned_order}
use Rattle.av_turns.proofs.line.WaitingLine.take.Goals as goal

pub invariant_of-self-2 : goal.invariant_of-self-2
invariant_of-self-2 c =
    let front : c.self.inside.order.items ≡ c.in_ok-client.client ∷ drop 1 c.self.inside.order.items = grind (arith, common_steps) in
    let behind : c.rotate_left.new.self.items ≡ drop 1 c.self.inside.order.items ++ c.in_ok-client.client ∷ [] = grind (arith, common_steps, front, c.rotate_left.ensures.items) in
    subst (λ r. IsOrdered c.pop_from.new.asks.entries r) (sym behind) (turned_order c.self.inside.asks.entries c.pop_from.new.asks.entries c.self.inside.order.items c.in_ok-client.client c.self.invariant front c.pop_from.ensures.there)
