-- Notes of a ticket.
use Rattle.std.specs.Prelude.{◌≡◌}
use Rattle.std.specs.Arc.{arc_value}
use Rattle.once_cell.specs.Once.{cell_name}
use Rattle.av_ends.specs.declared.ticket.Ticket.{Ticket}
use Rattle.av_ends.specs.declared.ticket_note.TicketNote.{TicketNote}

-- the note is of this ticket
abbrev pub IsNoteOf : Ticket → TicketNote → Type 0
IsNoteOf t n = (n.note.cell ≡ cell_name (arc_value t.cell)) × (n.open_id ≡ t.open_id) × (n.least ≡ t.least)
