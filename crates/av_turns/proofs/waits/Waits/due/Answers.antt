use Rattle.std.proofs.Common.{refl, subst}
use Rattle.av_turns.specs.Waits.{AreTimed}
use Rattle.av_turns.proofs.WaitsLemmas.{first_since, longest, nothing_waits}
use Rattle.av_turns.proofs.waits.Waits.due.Goals as goal

pub returns-in-Some : goal.returns-in-Some
returns-in-Some c =
    let timed : AreTimed c.args.self.now c.self.inside.times = subst (λ w. AreTimed w c.self.inside.times) c.self.view_is c.self.invariant in (
      c.in-Some.field-0-1,
      c.in-Some.since,
      first_since c.args.self.now c.self.inside.times c.in-Some.field-0-1 c.in-Some.since timed c.in-Some.ensures.member,
      longest c.args.self.now c.self.inside.times c.in-Some.since timed c.in-Some.ensures.least,
      c.saturating_add.ensures,
    )

pub returns-in-None : goal.returns-in-None
returns-in-None c =
    let timed : AreTimed c.args.self.now c.self.inside.times = subst (λ w. AreTimed w c.self.inside.times) c.self.view_is c.self.invariant in
    λ q. nothing_waits c.args.self.now c.self.inside.times q timed (c.in-None.ensures.none refl)
