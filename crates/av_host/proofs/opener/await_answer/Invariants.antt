use Rattle.av_ends.specs.Tickets.{IsNoteOf}
use Rattle.av_host.proofs.opener.await_answer.Given as goal

-- the note is of the ticket
abbrev pub invariant-looks : goal.invariant-looks
invariant-looks g l = IsNoteOf l.ticket l.note
