use Rattle.av_match.specs.Shifts.{AreLowered}
use Rattle.av_match.proofs.shifts.shifts_of.Given as goal

-- the words so far are taken in
abbrev pub invariant-loop-word : goal.invariant-loop-word
invariant-loop-word l = AreLowered l.words l.word-index l.window l.shifts.items
