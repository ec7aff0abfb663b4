use Rattle.std.proofs.Common.{ap, subst, sym, suc, ◌∙◌, ◌≡◌, ◌≤◌, length, arith}
use Rattle.std.proofs.lemmas.Grind.{common_steps}
use Rattle.av_turns.specs.declared.clients.Granted.TheVariants.{Given}
use Rattle.av_turns.specs.Line.{queue_of}
use Rattle.av_turns.proofs.CountsLemmas.{kept_granted, kept_shared, stays}
use Rattle.av_turns.proofs.ClientsLemmas.{grants_more}
use Rattle.av_turns.proofs.turns.Turns.grant.Goals as goal

pub loop-self-preserved : goal.loop-self-preserved
loop-self-preserved c =
    let i = c.loop-self.invariant in
    let given : c.grant.result ≡ Given = grind (arith, common_steps) in
    let fewer : length c.grant.new.self.clients ≤ c.loop-self.self-inside.most_clients = grind (arith, common_steps) in (
      i.0,
      i.1,
      i.2,
      i.3,
      i.4,
      i.5,
      i.6,
      λ q. c.grant.ensures.there q ∙ i.7 q,
      fewer,
      i.9,
      i.10,
      (suc i.11.0, grants_more i.11.0 c.self.inside.clients c.loop-self.self-inside.clients c.grant.new.self i.11.1 (c.grant.ensures.given given)),
    )

pub invariant_of-self : goal.invariant_of-self
invariant_of-self c =
    let i = c.loop-self.invariant in (
      subst (λ x. x ≤ c.loop-self.self-inside.most_clients) (sym c.grant.ensures.count) i.8,
      stays c.self.inside.clients.clients c.grant.new.self.clients c.self.inside.smalls.asks c.loop-self.self-inside.smalls.asks c.self.inside.larges.asks c.loop-self.self-inside.larges.asks c.self.invariant.1
          (λ q. kept_shared c.grant.result c.loop-self.self-inside.clients c.grant.new.self q c.grant.ensures.given c.grant.ensures.waits c.grant.ensures.err ∙ kept_granted i.11.0 c.self.inside.clients c.loop-self.self-inside.clients q i.11.1)
          (λ q. ap (λ l. queue_of l.asks q) i.0) (λ q. ap (λ l. queue_of l.asks q) i.1),
    )
