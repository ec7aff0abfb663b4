use Rattle.std.proofs.Common.{reverse, sym, subst}
use Rattle.av_world.specs.Request.{outcome_of}
use Rattle.av_world.specs.Stage.{Takes, at_history}
use Rattle.av_world.proofs.world.stage.Stage.answer.Goals as goal

pub returns-in-Publish : goal.returns-in-Publish
returns-in-Publish c e =
    let h = reverse c.args.history.now in
    subst (λ q. Takes c.args.self.now c.publish.new.self h e (outcome_of (at_history h c.args.self.now) e q) c.publish.result) (sym c.in-Publish.is) (c.publish.ensures h e)

pub returns-in-Filter : goal.returns-in-Filter
returns-in-Filter c e =
    let h = reverse c.args.history.now in
    subst (λ q. Takes c.args.self.now c.filter_event.new.self h e (outcome_of (at_history h c.args.self.now) e q) c.filter_event.result) (sym c.in-Filter.is) (c.filter_event.ensures e)

pub returns-in-Service : goal.returns-in-Service
returns-in-Service c e =
    let h = reverse c.args.history.now in
    subst (λ q. Takes c.args.self.now c.serve_event.new.self h e (outcome_of (at_history h c.args.self.now) e q) c.serve_event.result) (sym c.in-Service.is) (c.serve_event.ensures h e)

pub returns-in-Down : goal.returns-in-Down
returns-in-Down c e =
    let h = reverse c.args.history.now in
    subst (λ q. Takes c.args.self.now c.deliver_down.new.self h e (outcome_of (at_history h c.args.self.now) e q) c.deliver_down.result) (sym c.in-Down.is) (c.deliver_down.ensures h e)

pub returns-in-Up : goal.returns-in-Up
returns-in-Up c e =
    let h = reverse c.args.history.now in
    subst (λ q. Takes c.args.self.now c.deliver_up.new.self h e (outcome_of (at_history h c.args.self.now) e q) c.deliver_up.result) (sym c.in-Up.is) (c.deliver_up.ensures e)

pub returns-in-Run : goal.returns-in-Run
returns-in-Run c e =
    let h = reverse c.args.history.now in
    subst (λ q. Takes c.args.self.now c.run_work.new.self h e (outcome_of (at_history h c.args.self.now) e q) c.run_work.result) (sym c.in-Run.is) (c.run_work.ensures h e)
