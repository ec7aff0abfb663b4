use Rattle.av_chart.proofs.LoopLemmas.{put_spelt}
use Rattle.av_chart.specs.Messages.{sent_by_step}
use Rattle.av_chart.proofs.picture.messages.put_by_steps.Goals as goal

pub loop-step-preserved : goal.loop-step-preserved
loop-step-preserved c =
    put_spelt (sent_by_step c.args.picture.now) c.args.steps.now c.loop-step.step-index _ c.args.page.now.items c.loop-step.page.items c.put_by_step.new.page.items c.loop-step-test.true
    c.loop-step.invariant (c.in_ok-put_by_step.ensures)
