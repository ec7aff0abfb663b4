use Rattle.std.proofs.Common.{drop}
use Rattle.av_gate.specs.Claims.{RisesFrom}
use Rattle.av_gate.proofs.checks.rises.Given as goal

-- what is left rises, and then all does
abbrev pub invariant-loop-call : goal.invariant-loop-call
invariant-loop-call l = RisesFrom l.start l.low (drop l.call-index l.calls) l.events → RisesFrom l.start 0 l.calls l.events
