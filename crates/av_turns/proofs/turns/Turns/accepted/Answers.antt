use Rattle.std.proofs.Common.{arith, ap, refl, sym, ◌∙◌, ◌≡◌, ◌≤◌, is_some, length, None, true}
use Rattle.std.proofs.lemmas.Grind.{common_steps}
use Rattle.av_turns.specs.Clients.{at}
use Rattle.av_turns.specs.Counts.{kept_of}
use Rattle.av_turns.proofs.CountsLemmas.{admitted_counted, gone_counted, not_there}
use Rattle.av_turns.proofs.turns.Turns.accepted.Goals as goal

pub invariant_of-self-then-count-self : goal.invariant_of-self-then-count-self
invariant_of-self-then-count-self c =
    let none : at c.self.inside.clients.clients c.args.client ≡ None = not_there _ (ap is_some (sym c.get.ensures.value) ∙ sym c.is_some.ensures ∙ c.if-is_some.false) in
    let long : length c.admit.new.self.clients ≤ c.self.inside.most_clients = grind (arith, common_steps) in
    (long, admitted_counted c.self.inside.clients c.admit.new.self c.args.client c.self.inside.smalls.asks c.self.inside.larges.asks c.new.result c.self.invariant.1 none (ap kept_of c.new.ensures.value ∙ refl) c.in_ok-admit.ensures.ok)

pub invariant_of-self-2 : goal.invariant_of-self-2
invariant_of-self-2 c =
    let none : at c.self.inside.clients.clients c.args.client ≡ None = not_there _ (ap is_some (sym c.get.ensures.value) ∙ sym c.is_some.ensures ∙ c.if-is_some.false) in
    let there : is_some (at c.admit-2.new.self.clients c.in-Some.victim) ≡ true = c.admit-2.ensures.others c.in-Some.victim c.in-Some.ensures.there in
    let long : length c.lost.new.self.clients ≤ c.self.inside.most_clients = grind (arith, c.lost.ensures.count there, c.in_ok-admit-2.ensures.count, c.self.invariant.0) in (
      long,
      gone_counted c.admit-2.new.self.clients c.lost.new.self.clients c.in-Some.victim c.self.inside.smalls.asks c.forget.new.self.asks c.self.inside.larges.asks c.forget-2.new.self.asks
          (admitted_counted c.self.inside.clients c.admit-2.new.self c.args.client c.self.inside.smalls.asks c.self.inside.larges.asks c.new-2.result c.self.invariant.1 none (ap kept_of c.new-2.ensures.value ∙ refl) c.in_ok-admit-2.ensures.ok)
          c.lost.ensures.others c.forget.ensures.asks c.forget-2.ensures.asks,
    )
