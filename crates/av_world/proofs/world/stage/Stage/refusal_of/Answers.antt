use Rattle.std.proofs.Common.{◌≡◌, sym, subst}
use Rattle.av_world.proofs.RequestLemmas.{refused_up}
use Rattle.av_world.specs.Request.{frame_fault, outcome_of}
use Rattle.av_base.specs.Refused.{IsFaultOf}
use Rattle.av_world.specs.Stage.{at_history}
use Rattle.av_history.specs.World.{WorldState, member, up_frame}
use Rattle.av_world.proofs.world.stage.Stage.refusal_of.Goals as goal

pub returns-in-Publish : goal.returns-in-Publish
returns-in-Publish c h e = subst (λ q. IsFaultOf (outcome_of (at_history h c.args.self.now) e q) c.publish_refusal.result) (sym c.in-Publish.is) (c.publish_refusal.ensures h e)

pub returns-in-Up : goal.returns-in-Up
returns-in-Up c h e =
    let here = c.self.inside in
    let k = c.in-Up.place in
    let told = subst (λ (w : WorldState). c.frame_refusal-in-Up.result ≡ frame_fault (member w.up k)) c.self.view_is c.frame_refusal-in-Up.ensures in
    subst (λ q. IsFaultOf (outcome_of (at_history h c.args.self.now) e q) c.frame_refusal-in-Up.result) (sym c.in-Up.is)
    (subst (λ f. IsFaultOf (up_frame (at_history h c.args.self.now) e (member c.args.self.now.up k)) f) (sym told) (refused_up (at_history h c.args.self.now) e (member c.args.self.now.up k)))
