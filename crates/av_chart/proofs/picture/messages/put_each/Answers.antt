use Rattle.std.proofs.Common.{ap, ◌++◌, ◌∙◌}
use Rattle.av_chart.proofs.LoopLemmas.{put_placed_item}
use Rattle.av_chart.specs.Messages.{message_at, message_shown}
use Rattle.av_chart.proofs.picture.messages.put_each.Goals as goal

pub loop-order-preserved : goal.loop-order-preserved
loop-order-preserved c =
    put_placed_item (message_at c.args.picture.now c.args.way c.args.span) c.args.messages.now c.loop-order.order c.index-messages-order.result c.args.page.now.items
    c.loop-order.page.items c.put_if_shown.new.page.items c.loop-order-test.true c.index-messages-order.is c.loop-order.invariant
    (c.in_ok-put_if_shown.ensures ∙ ap (λ k. c.loop-order.page.items ++ message_shown c.args.picture.now c.args.way k c.index-messages-order.result) c.place_in-index.ensures)
