use Rattle.std.proofs.Common.{arith, ◌≡◌, ◌∷◌, ◌++◌, [], None, sym, subst}
use Rattle.std.proofs.lemmas.Grind.{common_steps}
use Rattle.av_turns.specs.Line.{IsOrdered, queue_at}
use Rattle.av_turns.proofs.LineLemmas.{joined_order}
use Rattle.av_turns.proofs.line.WaitingLine.stand.Goals as goal

pub invariant_of-self-2 : goal.invariant_of-self-2
invariant_of-self-2 c =
    let none : queue_at c.self.inside.asks.entries c.args.client ≡ None = grind (arith, common_steps) in
    let behind : c.push_back.new.self.items ≡ c.self.inside.order.items ++ c.args.client ∷ [] = grind (arith, common_steps) in
    subst (λ r. IsOrdered c.begin.new.asks.entries r) (sym behind) (joined_order c.self.inside.asks.entries c.begin.new.asks.entries c.self.inside.order.items c.args.client c.self.invariant none c.in_ok-begin.ensures.there)
