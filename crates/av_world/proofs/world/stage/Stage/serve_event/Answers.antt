use Rattle.av_world.proofs.RequestLemmas.{serves}
use Rattle.av_world.specs.Serving.{event_called}
use Rattle.av_world.proofs.world.stage.Stage.serve_event.Goals as goal

pub returns : goal.returns
returns c h e = serves c.service_event.result c.args.self.now c.service_event.new.self h e c.args.port (event_called c.args.self.now.sets c.args.call.now) (c.service_event.ensures h e)
