use Rattle.av_chart.proofs.LoopLemmas.{put_placed}
use Rattle.av_chart.specs.Picture.{step_at}
use Rattle.av_chart.proofs.picture.put_each_step.Goals as goal

pub loop-index-preserved : goal.loop-index-preserved
loop-index-preserved c =
    put_placed (step_at c.args.picture.now) c.args.steps.now c.loop-index.index _ c.args.page.now.items c.loop-index.page.items c.put_step_at.new.page.items c.loop-index-test.true
    c.loop-index.invariant (c.in_ok-put_step_at.ensures)
