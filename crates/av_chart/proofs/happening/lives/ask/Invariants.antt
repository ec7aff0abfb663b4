use Rattle.std.proofs.Common.{◌≡◌, map, take}
use Rattle.av_chart.specs.Life.{lives_of}
use Rattle.av_chart.specs.Story.{asked, in_turn}
use Rattle.av_chart.proofs.happening.lives.ask.Given as goal

-- the messages so far asked or aborted
abbrev pub invariant-loop-index : goal.invariant-loop-index
invariant-loop-index l =
    lives_of l.questions ≡ in_turn (asked (map (λ n. n.now) l.names) l.at) 0 (take l.index l.messages) (lives_of l.initial.questions)
