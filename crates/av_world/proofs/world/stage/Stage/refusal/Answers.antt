use Rattle.av_world.proofs.RequestLemmas.{refused_so}
use Rattle.av_world.proofs.world.stage.Stage.refusal.Goals as goal

pub returns : goal.returns
returns c h = refused_so c.refusal_of.result c.args.self.now h c.args.event.now c.in-Ok.request (c.in-Ok.ensures h) (c.refusal_of.ensures h c.args.event.now)
