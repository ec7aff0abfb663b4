use Rattle.std.proofs.Common.{◌≡◌, drop}
use Rattle.av_desk.specs.Book.{messages_of}
use Rattle.av_desk.proofs.locked.outgoing.quiet_ones.Given as goal

-- those so far sent none
abbrev pub invariant-loop-entry : goal.invariant-loop-entry
invariant-loop-entry l = (l.count ≡ l.entry-index) × (messages_of (drop l.count l.entries) ≡ messages_of l.entries)
