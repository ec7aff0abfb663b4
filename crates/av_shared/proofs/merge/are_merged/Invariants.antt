use Rattle.av_shared.specs.Merged.{AreTaken, events_left}
use Rattle.av_shared.proofs.merge.are_merged.Given as goal

abbrev pub invariant-events : goal.invariant-events
invariant-events l = AreTaken l.sides.gate.now l.sides.one.now l.sides.two.now l.taken

abbrev pub decreases-events : goal.decreases-events
decreases-events l = events_left l.sides.gate.now l.sides.one.now l.sides.two.now l.taken
