use Rattle.std.proofs.Common.{ℕ, ◌≡◌, ◌+◌}
use Rattle.av_chart.proofs.StoryLemmas.{turned}
use Rattle.av_chart.specs.Life.{lives_of}
use Rattle.av_chart.specs.Story.{worked}
use Rattle.av_frame.specs.Message.{Letter}
use Rattle.av_chart.proofs.happening.lives.work.Goals as goal

pub loop-index-preserved : goal.loop-index-preserved
loop-index-preserved c =
    let i : ℕ = c.loop-index.index in
    let one : Letter = c.index-messages-index.result in
    let own : lives_of c.work_one.new.jobs ≡ worked c.args.at (c.args.first + i) one (lives_of c.loop-index.jobs) =
    c.in_ok-work_one.ensures
    in
    turned (worked c.args.at) c.args.first c.args.messages.now i one _ _ _ c.loop-index-test.true c.index-messages-index.is c.loop-index.invariant own
