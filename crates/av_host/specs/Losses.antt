-- How the loop into the gate ends, once the gate knows what that end says of its service.
use Rattle.std.specs.Prelude.{◌≡◌, Result, Ok, Err}
use Rattle.av_base.specs.declared.port.Port.{Port}
use Rattle.av_base.specs.declared.refusal.Refusal.{Refusal}
use Rattle.av_base.specs.declared.refusal.Refusal.TheVariants.{Fault, NoMemory}
use Rattle.av_filter.specs.declared.note.Note.{Note}
use Rattle.av_frame.specs.declared.end.End.{End}
use Rattle.av_frame.specs.declared.end.End.TheVariants.{AuditFull, Memory, WriteFault}
use Rattle.av_gate.specs.Seats.{Adds}
use Rattle.av_gate.specs.declared.call.Call.TheVariants.{Disconnect}
use Rattle.av_gate.specs.declared.fault.GateFault.{GateFault}
use Rattle.av_gate.specs.declared.seat.Seat.{Seat}

-- the end, once the gate was told of a loss: where it could not take that, opens may wait still
abbrev pub end_told : Result Note (Refusal GateFault) → End → End
end_told (Ok note) end = end
end_told (Err (Fault why)) end = AuditFull
end_told (Err NoMemory) end = Memory

-- a failed write is told to the gate as the loss of the port's service; of any other end the gate knows already what there is to know
abbrev pub IsLossTold : Seat → Seat → Port → End → End → Type 0
IsLossTold old new port WriteFault result =
    (told : Result Note (Refusal GateFault)) × Adds old new (Disconnect port) told × (result ≡ end_told told WriteFault)
IsLossTold old new port end result = (new ≡ old) × (result ≡ end)
