use Rattle.std.proofs.Common.{reverse, subst}
use Rattle.av_sigset.specs.Catalogue.{IsFalling}
use Rattle.av_world.proofs.RequestLemmas.{happens, not_above}
use Rattle.av_world.specs.Stage.{at_history}
use Rattle.av_history.specs.World.{WorldState}
use Rattle.av_world.proofs.world.stage.Stage.happen.Goals as goal

pub answer-requires : goal.answer-requires
answer-requires c port =
    let falling : IsFalling c.args.self.now.sets = subst (λ (w : WorldState). IsFalling w.sets) c.self.view_is c.latest.ensures.falling in
    not_above (at_history (reverse c.args.history.now) c.args.self.now) c.requires falling port

pub returns : goal.returns
returns c = let h = reverse c.args.history.now in happens c.answer.result c.args.self.now c.answer.new.self h c.args.event.now c.in-Ok.request (c.in-Ok.ensures h) (c.answer.ensures c.args.event.now)
