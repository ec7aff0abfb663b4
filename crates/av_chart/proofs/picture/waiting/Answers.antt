use Rattle.std.proofs.Common.{arith}
use Rattle.av_chart.proofs.LoopLemmas.{count_waiting}
use Rattle.av_chart.proofs.picture.waiting.Goals as goal

pub loop-bar-preserved : goal.loop-bar-preserved
loop-bar-preserved c =
    (count_waiting c.args.bars.now c.loop-bar.bar-index _ c.loop-bar.count c.waits-count.result c.loop-bar-test.true c.loop-bar.invariant.0 c.waits-count.ensures.value, omega arith)
