use Rattle.std.proofs.Common.{◌≡◌, ◌++◌, drop, length, map, take}
use Rattle.av_chart.specs.Life.{lives_of}
use Rattle.av_chart.specs.Slot.{free_places, slots}
use Rattle.av_chart.proofs.life.give_slots.Given as goal

-- the lives stay, and the places so far with those of the others make up all
abbrev pub invariant-loop-index : goal.invariant-loop-index
invariant-loop-index l =
    (lives_of l.bars.items ≡ lives_of l.initial.bars.items)
    × (map (λ b. b.slot) (take l.index l.bars.items) ++ slots l.last l.held (lives_of (drop l.index l.bars.items)) ≡ slots l.last free_places (lives_of l.initial.bars.items))
    × (l.index-end ≡ length l.bars.items)
