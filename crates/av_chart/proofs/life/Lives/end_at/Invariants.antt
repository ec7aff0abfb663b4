use Rattle.std.proofs.Common.{◌≡◌}
use Rattle.av_chart.specs.Life.{ends_at, lives_of, IsIndexed}
use Rattle.av_chart.specs.Living.{count_at, place_at}
use Rattle.av_chart.proofs.life.Lives.end_at.Given as goal

-- those that were taken ended as all are to, and the others are found
abbrev pub invariant-living : goal.invariant-living
invariant-living l =
    IsIndexed (lives_of l.self-inside.bars.items) (place_at l.self-inside.living)
    × (ends_at l.port l.end (lives_of l.self-inside.bars.items) ≡ ends_at l.port l.end (lives_of l.initial.self-inside.bars.items))

abbrev pub decreases-living : goal.decreases-living
decreases-living l = count_at l.self-inside.living l.port
