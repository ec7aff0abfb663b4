use Rattle.std.proofs.Common.{arith, refl, subst}
use Rattle.av_turns.specs.Waits.{AreTimed}
use Rattle.av_turns.proofs.WaitsLemmas.{first_since, longest, none_late, not_over}
use Rattle.av_turns.proofs.waits.Waits.late.Goals as goal

pub returns-in_default : goal.returns-in_default
returns-in_default c =
    let timed : AreTimed c.args.self.now c.self.inside.times = subst (λ w. AreTimed w c.self.inside.times) c.self.view_is c.self.invariant in
    (refl, λ q s e. none_late c.args.self.now c.self.inside.times q s c.args.wait c.args.now timed (c.in_default.ensures.none refl) e)

pub returns-then-now-saturating_add : goal.returns-then-now-saturating_add
returns-then-now-saturating_add c =
    let timed : AreTimed c.args.self.now c.self.inside.times = subst (λ w. AreTimed w c.self.inside.times) c.self.view_is c.self.invariant in
    (refl, λ q s e. not_over c.in-Some.since s c.args.wait c.args.now (longest c.args.self.now c.self.inside.times c.in-Some.since timed c.in-Some.ensures.least q s e) (omega (arith, c.saturating_add.ensures, c.if-now-saturating_add.true)))

pub returns : goal.returns
returns c =
    let timed : AreTimed c.args.self.now c.self.inside.times = subst (λ w. AreTimed w c.self.inside.times) c.self.view_is c.self.invariant in (
      c.in-Some.since,
      first_since c.args.self.now c.self.inside.times c.in-Some.number c.in-Some.since timed c.in-Some.ensures.member,
      longest c.args.self.now c.self.inside.times c.in-Some.since timed c.in-Some.ensures.least,
      omega (arith, c.saturating_add.ensures, c.if-now-saturating_add.false),
      c.end.ensures,
    )
