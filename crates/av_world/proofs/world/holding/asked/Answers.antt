use Rattle.std.proofs.Common.{sym, ◌∙◌}
use Rattle.av_world.proofs.HeldLemmas.{first_asks, none_asks, passes}
use Rattle.av_world.proofs.world.holding.asked.Goals as goal

pub loop-message-preserved : goal.loop-message-preserved
loop-message-preserved c = passes c.args.id c.args.down.now _ c.message-item.result c.loop-message-test.true c.message-item.is (sym c.asked_by.ensures ∙ c.in_default.is) c.loop-message.invariant

pub returns-in-Some : goal.returns-in-Some
returns-in-Some c = first_asks c.args.id c.args.down.now _ c.message-item.result _ c.loop-message-test.true c.message-item.is (sym c.asked_by.ensures ∙ c.in-Some.is) c.loop-message.invariant

pub returns : goal.returns
returns c = none_asks c.args.id c.args.down.now _ c.loop-message-test.false c.loop-message.invariant
