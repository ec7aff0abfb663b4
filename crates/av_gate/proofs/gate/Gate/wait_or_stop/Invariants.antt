use Rattle.std.proofs.Common.{◌≡◌}
use Rattle.std.specs.Prelude.{Some}
use Rattle.av_ends.specs.Tickets.{IsNoteOf}
use Rattle.av_pend.specs.declared.answer.Answer.{Answer}
use Rattle.av_gate.proofs.gate.Gate.wait_or_stop.Given as goal

-- the note is the ticket's, and knows what it knew
abbrev pub invariant-loop : goal.invariant-loop
invariant-loop g l = IsNoteOf l.ticket l.note × ((a : Answer) → l.initial.note.note.known ≡ Some a → l.note.note.known ≡ Some a)
