use Rattle.std.proofs.Common.{◌≡◌, take}
use Rattle.av_chart.specs.Life.{lives_of}
use Rattle.av_chart.specs.Story.{in_turn, worked}
use Rattle.av_chart.proofs.happening.lives.work.Given as goal

-- the messages so far asked for content or replied
abbrev pub invariant-loop-index : goal.invariant-loop-index
invariant-loop-index l = lives_of l.jobs ≡ in_turn (worked l.at) l.first (take l.index l.messages) (lives_of l.initial.jobs)
