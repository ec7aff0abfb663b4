use Rattle.std.proofs.Common.{take}
use Rattle.av_match.specs.States.{AreOwn}
use Rattle.av_match.proofs.outputs.own_outputs.Given as goal

-- those of the patterns so far
abbrev pub invariant-loop-index : goal.invariant-loop-index
invariant-loop-index l = AreOwn (take l.index l.patterns) l.words l.own.items
