use Rattle.std.proofs.Common.{◌≡◌, ◌≤◌, ◌-◌, ◌++◌, map, max}
use Rattle.av_chart.specs.Story.{works_lines}
use Rattle.av_chart.proofs.happening.take_lines.Given as goal

-- the lines of the works so far
abbrev pub invariant-loop-index : goal.invariant-loop-index
invariant-loop-index l =
    (map (λ t. t.items) l.told.items ≡ map (λ t. t.items) l.initial.told.items ++ works_lines l.world l.report.before.works (l.index - l.report.before.works))
    × (l.report.before.works ≤ l.index) × (l.index ≤ max l.report.before.works l.report.after.works)
