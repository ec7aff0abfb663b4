use Rattle.std.proofs.Common.{◌≡◌, reverse, rules, Some, subst}
use Rattle.av_world.proofs.RequestLemmas.{delivers_up}
use Rattle.av_history.specs.World.{WorldState, member}
use Rattle.av_world.proofs.world.stage.Stage.deliver_up.Goals as goal

pub returns : goal.returns
returns c e =
    let there : member c.self.inside.up.items c.args.place ≡ Some c.in_ok-message.message = search rules in
    let stands = subst (λ (w : WorldState). member w.up c.args.place ≡ Some c.in_ok-message.message) c.self.view_is there in
    delivers_up c.filter_event.result c.args.self.now c.filter_event.new.self (reverse c.args.history.now) e c.args.place c.in_ok-message.message stands (c.filter_event.ensures e)
