use Rattle.std.proofs.Common.{◌≤◌, refl, subst, sym}
use Rattle.av_turns.proofs.CountsLemmas.{kept_looked, stays}
use Rattle.av_turns.proofs.turns.Turns.next.Goals as goal

pub invariant_of-self : goal.invariant_of-self
invariant_of-self c = (
  subst (λ x. x ≤ c.self.inside.most_clients) (sym c.next.ensures.count) c.self.invariant.0,
  stays c.self.inside.clients.clients c.next.new.self.clients c.self.inside.smalls.asks c.self.inside.smalls.asks c.self.inside.larges.asks c.self.inside.larges.asks c.self.invariant.1 (λ q. kept_looked c.next.result c.self.inside.clients c.next.new.self q c.next.ensures.exact)
      (λ q. refl) (λ q. refl),
)
