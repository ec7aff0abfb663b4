use Rattle.av_chart.proofs.LoopLemmas.{put_placed}
use Rattle.av_chart.specs.Messages.{arrival_shown}
use Rattle.av_chart.proofs.picture.messages.put_each_arrival.Goals as goal

pub loop-order-preserved : goal.loop-order-preserved
loop-order-preserved c =
    put_placed (arrival_shown c.args.picture.now c.args.shown.way c.args.shown.sent.now c.args.shown.words.now) c.args.arrivals.now c.loop-order.order _ c.args.page.now.items c.loop-order.page.items c.put_if_own.new.page.items c.loop-order-test.true
    c.loop-order.invariant (c.in_ok-put_if_own.ensures)
