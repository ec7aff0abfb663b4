use Rattle.std.proofs.Common.{◌≡◌, take}
use Rattle.av_chart.specs.Life.{lives_of}
use Rattle.av_chart.specs.Story.{answered, in_turn}
use Rattle.av_chart.proofs.happening.lives.end_answered.Given as goal

-- the answers so far ended their opens
abbrev pub invariant-loop-index : goal.invariant-loop-index
invariant-loop-index l = lives_of l.opens ≡ in_turn (answered l.at) l.first (take l.index l.given) (lives_of l.initial.opens)
