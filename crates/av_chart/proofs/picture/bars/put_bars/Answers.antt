use Rattle.av_chart.proofs.LoopLemmas.{put_spelt}
use Rattle.av_chart.specs.Bars.{bar_shown}
use Rattle.av_chart.proofs.picture.bars.put_bars.Goals as goal

pub loop-bar-preserved : goal.loop-bar-preserved
loop-bar-preserved c =
    put_spelt (bar_shown c.args.picture.now c.args.kind) c.args.bars.now c.loop-bar.bar-index _ c.args.page.now.items c.loop-bar.page.items c.put_shown.new.page.items c.loop-bar-test.true
    c.loop-bar.invariant (c.in_ok-put_shown.ensures)
