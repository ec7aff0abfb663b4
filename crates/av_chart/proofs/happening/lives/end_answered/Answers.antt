use Rattle.std.proofs.Common.{◌≡◌, ◌+◌}
use Rattle.av_chart.proofs.StoryLemmas.{turned}
use Rattle.av_chart.specs.Life.{lives_of}
use Rattle.av_chart.specs.Story.{answered}
use Rattle.av_chart.proofs.happening.lives.end_answered.Goals as goal

pub loop-index-preserved : goal.loop-index-preserved
loop-index-preserved c =
    let i = c.loop-index.index in
    let one = c.index-given-index.result in
    let own : lives_of c.end.new.self ≡ answered c.args.at (c.args.first + i) one (lives_of c.loop-index.opens) =
    rw (← c.how_answered.ensures, ← c.id_of.ensures, ← c.number_id.ensures, ← c.moment.ensures) c.end.ensures
    in
    turned (answered c.args.at) c.args.first c.args.given.now i one _ _ _ c.loop-index-test.true c.index-given-index.is c.loop-index.invariant own
