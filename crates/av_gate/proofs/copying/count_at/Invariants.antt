use Rattle.std.proofs.Common.{◌≡◌, ◌≤◌, take}
use Rattle.std.specs.List.{count_by}
use Rattle.av_gate.specs.PortCounts.{is_at}
use Rattle.av_gate.proofs.copying.count_at.Given as goal

-- those so far were counted
abbrev pub invariant-loop-message : goal.invariant-loop-message
invariant-loop-message l = (l.count ≡ count_by (is_at l.port) (take l.message-index l.messages)) × (l.count ≤ l.message-index)
