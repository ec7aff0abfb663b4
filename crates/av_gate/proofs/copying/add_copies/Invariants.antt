use Rattle.std.proofs.Common.{◌≡◌, ◌++◌, take}
use Rattle.av_gate.specs.PortCounts.{letters_at}
use Rattle.av_gate.proofs.copying.add_copies.Given as goal

-- those of the port so far stand behind what was there
abbrev pub invariant-loop-message : goal.invariant-loop-message
invariant-loop-message l = l.messages.items ≡ l.initial.messages.items ++ letters_at l.port (take l.message-index l.more)
