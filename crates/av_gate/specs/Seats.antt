-- Seats of a gate, and what a call adds to its seat.
use Rattle.std.specs.Prelude.{◌≡◌, ℕ, ◌++◌, ◌∷◌, [], List, Result, Ok, Err}
use Rattle.av_ends.specs.Seats.{IsFloorSeatOf, seen}
use Rattle.av_ends.specs.declared.ticket.Ticket.{Ticket}
use Rattle.av_filter.specs.declared.note.Note.{Note}
use Rattle.av_filter.specs.declared.note.Note.TheVariants.{Submitted}
use Rattle.av_gate.specs.declared.call.Call.{Call}
use Rattle.av_gate.specs.declared.call.Call.TheVariants as call
use Rattle.av_gate.specs.declared.gate.Gate.{Gate}
use Rattle.av_gate.specs.declared.seat.Seat.{Seat}
use Rattle.av_gate.specs.declared.seat.SeatCall.{SeatCall}

-- the seat is of this gate
abbrev pub IsSeatOf : Gate → Seat → Type 0
IsSeatOf g s = IsFloorSeatOf g.floor s.floor

-- the floor that the seat has seen
abbrev pub floor_seen : Seat → ℕ
floor_seen s = seen s.floor

-- the calls that were accepted
abbrev pub calls_of : Seat → List SeatCall
calls_of s = s.calls.items

-- a call of a seat, with its place among the events and its note
abbrev pub seat_call : ℕ → Call (List ℕ) → Note → SeatCall
seat_call place c note = record { place = place; call = c; note = note }

-- an accepted call is added, at some place and with the note that it answers; a refused one is not
abbrev pub Adds : {E : Type 0} → Seat → Seat → Call (List ℕ) → Result Note E → Type 0
Adds old new c (Ok note) = (place : ℕ) × (calls_of new ≡ calls_of old ++ seat_call place c note ∷ [])
Adds old new c (Err why) = calls_of new ≡ calls_of old

-- the same of an open, which has its ticket's least and number
abbrev pub AddsOpen : {E : Type 0} → Seat → Seat → List ℕ → Result Ticket E → Type 0
AddsOpen old new name (Ok t) =
    (place : ℕ) × (calls_of new ≡ calls_of old ++ seat_call place (call.Open name t.least) (Submitted t.open_id) ∷ [])
AddsOpen old new name (Err why) = calls_of new ≡ calls_of old
