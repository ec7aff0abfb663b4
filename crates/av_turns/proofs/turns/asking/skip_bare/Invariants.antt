use Rattle.std.proofs.Common.{length}
use Rattle.av_turns.specs.Line.{Skips}
use Rattle.av_turns.proofs.turns.asking.skip_bare.Given as goal

abbrev pub decreases-loop-first : goal.decreases-loop-first
decreases-loop-first l = length l.line.order

abbrev pub invariant-loop-first : goal.invariant-loop-first
invariant-loop-first l = Skips l.initial.line l.line
