use Rattle.av_match.proofs.OutputLemmas.{IsLedTo}
use Rattle.av_match.specs.States.{first_some}
use Rattle.av_match.proofs.outputs.stops_of.Given as goal

-- so many states are led
abbrev pub invariant-loop-state : goal.invariant-loop-state
invariant-loop-state l = IsLedTo first_some l.own l.fails l.state l.stops.items
