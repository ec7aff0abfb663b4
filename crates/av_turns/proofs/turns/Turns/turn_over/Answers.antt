use Rattle.std.proofs.Common.{sym, subst, refl, ◌∙◌}
use Rattle.av_turns.specs.Client.{over}
use Rattle.av_turns.specs.Clients.{Steps}
use Rattle.av_turns.specs.Turns.{IsApart}
use Rattle.av_turns.proofs.TurnsLemmas.{steps_none, steps_some}
use Rattle.std.proofs.Common.{ap}
use Rattle.av_turns.specs.Counts.{kept_of}
use Rattle.av_turns.proofs.CountsLemmas.{kept_over, still_counted}
use Rattle.av_turns.proofs.turns.Turns.turn_over.Goals as goal

pub returns-in_default-clause-ok : goal.returns-in_default-clause-ok
returns-in_default-clause-ok c =
    subst (λ t. Steps t.clients t.clients c.args.client (over c.args.left c.args.now) × IsApart t t) c.self.view_is
    (steps_none c.self.inside.clients c.self.inside.clients c.args.client (over c.args.left c.args.now) (sym c.get.ensures.value ∙ c.in_default.is) (0, refl), record { smalls = refl; larges = refl; passed = refl; may_jump = refl; most = refl; wait = refl; places = refl; questions = refl; budget = refl })

pub returns-clause-ok : goal.returns-clause-ok
returns-clause-ok c =
    let apart = c.grant.ensures.apart in
    subst (λ t. Steps t.clients c.grant.new.self.clients c.args.client (over c.args.left c.args.now) × IsApart t c.grant.new.self) c.self.view_is (
      steps_some c.self.inside.clients c.put.new.self c.grant.new.self.clients c.args.client c.in-Some.counts c.over.result (over c.args.left c.args.now) (sym c.get.ensures.value ∙ c.in-Some.is) c.over.ensures.value c.in_ok-put.ensures.ok c.grant.ensures.given,
      record { smalls = apart.smalls; larges = apart.larges; passed = apart.passed; may_jump = apart.may_jump; most = apart.most; wait = apart.wait; places = apart.places; questions = apart.questions; budget = apart.budget },
    )

pub invariant_of-self-2 : goal.invariant_of-self-2
invariant_of-self-2 c =
    still_counted c.put.result c.self.inside.clients c.put.new.self c.self.inside.most_clients c.args.client c.self.inside.smalls.asks c.self.inside.larges.asks c.in-Some.counts c.over.result c.self.invariant (sym c.get.ensures.value ∙ c.in-Some.is)
    (ap kept_of c.over.ensures.value ∙ kept_over c.args.left c.args.now c.in-Some.counts) c.put.ensures.ok c.put.ensures.err c.put.ensures.count
