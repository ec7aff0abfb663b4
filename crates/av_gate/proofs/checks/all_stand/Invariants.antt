use Rattle.std.proofs.Common.{take}
use Rattle.std.specs.List.{All}
use Rattle.av_gate.specs.Claims.{Stands}
use Rattle.av_gate.proofs.checks.all_stand.Given as goal

abbrev pub invariant-loop-receipt : goal.invariant-loop-receipt
invariant-loop-receipt l = All (Stands l.locked.events) (take l.receipt-index l.receipts)
