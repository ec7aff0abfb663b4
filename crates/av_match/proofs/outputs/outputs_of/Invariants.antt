use Rattle.av_match.proofs.OutputLemmas.{IsLedTo}
use Rattle.av_match.specs.States.{lesser}
use Rattle.av_match.proofs.outputs.outputs_of.Given as goal

-- so many states are led
abbrev pub invariant-loop-state : goal.invariant-loop-state
invariant-loop-state l = IsLedTo lesser l.own l.fails l.state l.outputs.items
