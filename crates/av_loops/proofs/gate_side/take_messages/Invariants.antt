use Rattle.std.proofs.Common.{◌≤◌}
use Rattle.av_base.specs.Recorded.{AreLeft}
use Rattle.av_gate.specs.Seats.{IsSeatOf, floor_seen}
use Rattle.av_loops.proofs.gate_side.take_messages.Given as goal

-- the seat is the gate's, and has seen no less of the floor
abbrev pub invariant-messages : goal.invariant-messages
invariant-messages g l = IsSeatOf l.side.gate.now l.seat × (floor_seen l.fn.seat ≤ floor_seen l.seat)
    × AreLeft l.fn.incoming.turns (g.S.RecordedRead.reads l.fn.reader) (g.S.RecordedRead.reads l.reader) l.incoming.turns
