use Rattle.std.proofs.Common.{◌∙◌}
use Rattle.av_chart.proofs.LoopLemmas.{count_again}
use Rattle.av_chart.proofs.picture.again_of.Goals as goal

pub loop-sent-preserved : goal.loop-sent-preserved
loop-sent-preserved c =
    c.saturating_add-again.ensures ∙ count_again c.args.messages.now c.loop-sent.sent-index c.sent-item.result c.loop-sent.again c.repeats.result c.loop-sent-test.true c.loop-sent.invariant c.sent-item.is c.repeats.ensures
