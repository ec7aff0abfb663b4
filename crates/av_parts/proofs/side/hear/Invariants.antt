use Rattle.std.proofs.Common.{◌-◌, ◌≤◌, length}
use Rattle.av_parts.specs.Steps.{HearsFront}
use Rattle.av_parts.proofs.side.hear.Given as goal

-- the orders of the first bytes were obeyed
abbrev pub invariant-orders : goal.invariant-orders
invariant-orders l =
    (l.at ≤ length l.piece)
    × HearsFront l.at l.piece l.fn.side.orders l.side.orders l.fn.side.judge l.side.judge l.fn.side.waits.items l.side.waits.items

abbrev pub decreases-orders : goal.decreases-orders
decreases-orders l = length l.piece - l.at
