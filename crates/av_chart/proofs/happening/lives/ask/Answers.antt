use Rattle.std.proofs.Common.{ℕ, ◌≡◌, ◌+◌, ◌∙◌, map, ap, arith}
use Rattle.av_chart.proofs.StoryLemmas.{turned}
use Rattle.av_chart.specs.Life.{lives_of}
use Rattle.av_chart.specs.Story.{asked}
use Rattle.av_frame.specs.Message.{Letter}
use Rattle.av_chart.proofs.happening.lives.ask.Goals as goal

pub loop-index-preserved : goal.loop-index-preserved
loop-index-preserved c =
    let i : ℕ = c.loop-index.index in
    let one : Letter = c.index-messages-index.result in
    let names = map (λ n. n.now) c.args.names.now in
    let same : i ≡ 0 + i = omega arith in
    let own : lives_of c.ask_one.new.questions ≡ asked names c.args.at (0 + i) one (lives_of c.loop-index.questions) =
    c.in_ok-ask_one.ensures ∙ ap (λ n. asked names c.args.at n one (lives_of c.loop-index.questions)) same
    in
    turned (asked names c.args.at) 0 c.args.messages.now i one _ _ _ c.loop-index-test.true c.index-messages-index.is c.loop-index.invariant own
