use Rattle.std.proofs.Common.{sym, subst}
use Rattle.av_turns.specs.Line.{IsOrdered}
use Rattle.av_turns.proofs.LineLemmas.{gone_order}
use Rattle.av_turns.proofs.line.WaitingLine.forget.Goals as goal

pub invariant_of-self : goal.invariant_of-self
invariant_of-self c =
    subst (λ r. IsOrdered c.drop_from.new.asks.entries r) (sym c.take_out.ensures) (gone_order c.self.inside.asks.entries c.drop_from.new.asks.entries c.self.inside.order.items c.args.client c.self.invariant c.drop_from.ensures)
