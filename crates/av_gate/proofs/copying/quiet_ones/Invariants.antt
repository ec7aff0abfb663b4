use Rattle.std.proofs.Common.{◌≡◌, drop}
use Rattle.av_gate.specs.Book.{messages_of}
use Rattle.av_gate.specs.PortCounts.{letters_at}
use Rattle.av_gate.proofs.copying.quiet_ones.Given as goal

-- those so far sent none of the port
abbrev pub invariant-loop-entry : goal.invariant-loop-entry
invariant-loop-entry l =
    (l.count ≡ l.entry-index) × (letters_at l.port (messages_of (drop l.count l.entries)) ≡ letters_at l.port (messages_of l.entries))
