use Rattle.std.proofs.Common.{◌≡◌, take}
use Rattle.av_gate.specs.Book.{messages_of}
use Rattle.av_gate.specs.PortCounts.{letters_at}
use Rattle.av_gate.proofs.copying.messages_of.Given as goal

abbrev pub invariant-loop-entry : goal.invariant-loop-entry
invariant-loop-entry l = l.messages.items ≡ letters_at l.port (messages_of (take l.entry-index l.entries))
