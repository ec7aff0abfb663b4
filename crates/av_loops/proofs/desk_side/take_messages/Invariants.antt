use Rattle.std.proofs.Common.{◌≡◌}
use Rattle.av_base.specs.Recorded.{AreLeft}
use Rattle.av_loops.proofs.desk_side.take_messages.Given as goal

-- the giver is of its pool
abbrev pub invariant-messages : goal.invariant-messages
invariant-messages g l = l.giver.channel ≡ l.fn.giver.channel
    × AreLeft l.fn.incoming.turns (g.S.RecordedRead.reads l.fn.reader) (g.S.RecordedRead.reads l.reader) l.incoming.turns
