use Rattle.std.proofs.Common.{◌≡◌, Ok, rules, subst}
use Rattle.av_world.specs.Judge.{judged_of}
use Rattle.av_history.specs.Past.{IsTold}
use Rattle.av_world.proofs.JudgeLemmas.{right_judged}
use Rattle.av_world.proofs.world.World.judge.Goals as goal

pub returns-clause-right : goal.returns-clause-right
returns-clause-right c =
    let told : IsTold c.args.self.now = subst IsTold c.self.view_is c.self.invariant.whole.told in
    let exact : judged_of c.args.self.now c.args.name.now ≡ Ok _ = search rules in
    right_judged c.args.self.now c.args.name.now _ told exact
