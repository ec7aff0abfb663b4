use Rattle.std.proofs.Common.{sym, subst, refl, ◌∙◌, ◌≡◌}
use Rattle.av_turns.specs.Client.{large_left}
use Rattle.av_turns.specs.Line.{IsInFront, Takes}
use Rattle.av_turns.specs.Turns.{All, standing_of, TakesLarge}
use Rattle.av_turns.proofs.CountsLemmas.{not_in_front, large_leaves, large_there}
use Rattle.av_turns.proofs.TurnsLemmas.{same_front, steps_some}
use Rattle.av_turns.proofs.turns.Turns.take_large.Goals as goal

pub unreachable-requires : goal.unreachable-requires
unreachable-requires c =
    let front : IsInFront c.self.inside.larges c.args.first = subst (λ t. IsInFront t.larges c.args.first) (sym c.self.view_is) c.requires in
    large_there c.self.inside.clients.clients c.self.inside.smalls.asks c.self.inside.larges.asks c.args.first c.self.invariant.1 front.first (sym c.get.ensures.value ∙ c.in_default.is)

pub unreachable-requires-in_default-take : goal.unreachable-requires-in_default-take
unreachable-requires-in_default-take c =
    not_in_front c.self.inside.larges c.args.first (subst (λ t. IsInFront t.larges c.args.first) (sym c.self.view_is) c.requires) c.in_default-take.ensures.none.1

pub invariant_of-self-2 : goal.invariant_of-self-2
invariant_of-self-2 c =
    let front : IsInFront c.self.inside.larges c.args.first = subst (λ t. IsInFront t.larges c.args.first) (sym c.self.view_is) c.requires in
    let client : c.in-Some-take.standing.client ≡ c.args.first.client = same_front _ _ _ _ _ c.in-Some-take.ensures.some.front front.front in
    let takes : Takes c.self.inside.larges c.take.new.self c.args.first.client (standing_of c.in-Some-take.standing) = subst (λ m. Takes c.self.inside.larges c.take.new.self m (standing_of c.in-Some-take.standing)) client c.in-Some-take.ensures.some in
    large_leaves c.self.inside.clients c.put.new.self c.self.inside.most_clients c.args.first.client c.self.inside.smalls.asks c.self.inside.larges.asks c.take.new.self.asks c.in-Some.counts c.large_left.result (standing_of c.in-Some-take.standing) c.args.first c.self.invariant
    (sym c.get.ensures.value ∙ c.in-Some.is) c.large_left.ensures.value c.in_ok-put.ensures.ok refl front.first takes.ask takes.others c.put.ensures.count

pub returns-clause-some : goal.returns-clause-some
returns-clause-some c =
    let s : All = record { clients = c.self.inside.clients; smalls = c.self.inside.smalls; larges = c.self.inside.larges; passed = c.self.inside.passed; may_jump = c.self.inside.may_jump; most = c.self.inside.most_clients; wait = c.self.inside.wait; places = c.self.inside.places; questions = c.self.inside.questions; budget = c.self.inside.budget } in
    let apart = c.grant.ensures.apart in
    let front : IsInFront s.larges c.args.first = subst (λ t. IsInFront t.larges c.args.first) (sym c.self.view_is) c.requires in
    subst (λ t. TakesLarge t c.grant.new.self c.in-Some-take.standing) c.self.view_is
    (record {
      first = c.args.first;
      front = front;
      client = same_front _ _ _ _ _ c.in-Some-take.ensures.some.front front.front;
      takes = subst (λ l. Takes s.larges l c.in-Some-take.standing.client (standing_of c.in-Some-take.standing)) (sym apart.larges) c.in-Some-take.ensures.some;
      counts = steps_some s.clients c.put.new.self c.grant.new.self.clients c.args.first.client c.in-Some.counts c.large_left.result (large_left c.args.first.length) (sym c.get.ensures.value ∙ c.in-Some.is) c.large_left.ensures.value c.in_ok-put.ensures.ok c.grant.ensures.given;
      passed = apart.passed;
      may_jump = apart.may_jump;
      smalls = apart.smalls;
      rest = record { most = apart.most; wait = apart.wait; places = apart.places; questions = apart.questions; budget = apart.budget };
    })
