use Rattle.std.proofs.Common.{◌≡◌, rules, Some, subst}
use Rattle.av_world.proofs.RequestLemmas.{delivers_down}
use Rattle.av_service.specs.Conduct.{Receives}
use Rattle.av_world.specs.Serving.{TakesServed}
use Rattle.av_history.specs.World.{WorldState, member}
use Rattle.av_world.proofs.world.stage.Stage.deliver_down.Goals as goal

pub returns : goal.returns
returns c h e =
    let there : member c.self.inside.down.items c.args.place ≡ Some c.in_ok-message.message = search rules in
    let stands = subst (λ (w : WorldState). member w.down c.args.place ≡ Some c.in_ok-message.message) c.self.view_is there in
    delivers_down c.service_event.result c.args.self.now c.service_event.new.self h e c.args.place c.in_ok-message.message stands
    (subst (λ port. TakesServed c.args.self.now c.service_event.new.self h e port (Receives c.in_ok-message.message) c.service_event.result) c.port-port.ensures (c.service_event.ensures h e))
