use Rattle.std.proofs.Common.{◌≡◌, ◌≤◌, ◌-◌, max}
use Rattle.av_chart.specs.Life.{lives_of}
use Rattle.av_chart.specs.Story.{lent}
use Rattle.av_chart.proofs.happening.lives.take_works.Given as goal

-- the works so far began
abbrev pub invariant-loop-index : goal.invariant-loop-index
invariant-loop-index l =
    (lives_of l.works ≡ lent l.at l.report.before.works (l.index - l.report.before.works) (lives_of l.initial.works))
    × (l.report.before.works ≤ l.index) × (l.index ≤ max l.report.before.works l.report.after.works)
