use Rattle.std.proofs.Common.{arith, ◌≤◌, length}
use Rattle.av_turns.proofs.CountsLemmas.{gone_counted}
use Rattle.av_turns.proofs.turns.Turns.closed.Goals as goal

pub invariant_of-self : goal.invariant_of-self
invariant_of-self c =
    let long : length c.lost.new.self.clients ≤ c.self.inside.most_clients = grind (arith, c.lost.ensures.less, c.self.invariant.0) in
    (long, gone_counted c.self.inside.clients.clients c.lost.new.self.clients c.args.client c.self.inside.smalls.asks c.forget.new.self.asks c.self.inside.larges.asks c.forget-2.new.self.asks c.self.invariant.1 c.lost.ensures.others c.forget.ensures.asks c.forget-2.ensures.asks)
