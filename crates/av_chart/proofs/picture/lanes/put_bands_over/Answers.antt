use Rattle.av_chart.proofs.LoopLemmas.{put_placed_any}
use Rattle.av_chart.specs.Picture.{band_over}
use Rattle.av_chart.proofs.picture.lanes.put_bands_over.Goals as goal

pub loop-index-preserved : goal.loop-index-preserved
loop-index-preserved c =
    put_placed_any (band_over c.args.picture.now) c.args.steps.now c.loop-index.index c.args.page.now.items c.loop-index.page.items c.put_band_over.new.page.items
    c.loop-index-test.true c.loop-index.invariant (λ x. c.in_ok-put_band_over.ensures)
