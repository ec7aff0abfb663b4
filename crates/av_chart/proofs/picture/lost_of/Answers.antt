use Rattle.std.proofs.Common.{arith}
use Rattle.av_chart.proofs.LoopLemmas.{count_lost}
use Rattle.av_chart.proofs.picture.lost_of.Goals as goal

pub loop-sent-preserved : goal.loop-sent-preserved
loop-sent-preserved c =
    (count_lost c.args.messages.now c.loop-sent.sent-index c.sent-item.result c.loop-sent.count c.is_lost-count.result c.loop-sent-test.true c.loop-sent.invariant.0 c.sent-item.is c.is_lost-count.ensures.value, omega arith)
