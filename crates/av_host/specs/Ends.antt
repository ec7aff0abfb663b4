-- How a host ends, from the ends of the loops of its services.
use Rattle.std.specs.Prelude.{◌≡◌, Bool, true, false, ◌&&◌, if◌then◌else◌}
use Rattle.av_frame.specs.declared.end.End.{End}
use Rattle.av_frame.specs.declared.end.End.TheVariants.{AuditFull, Closed, Done, Frame, Memory, ReadFault, WriteFault}
use Rattle.av_host.specs.declared.ends.PortEnds.{PortEnds}
use Rattle.av_status.specs.Status.{graver}

-- a connection failed
abbrev pub is_lost : End → Bool
is_lost Done = false
is_lost ReadFault = true
is_lost WriteFault = true
is_lost Frame = true
is_lost Closed = false
is_lost Memory = false
is_lost AuditFull = false

-- nothing failed
abbrev pub ends_well : End → Bool
ends_well Done = true
ends_well ReadFault = false
ends_well WriteFault = false
ends_well Frame = false
ends_well Closed = true
ends_well Memory = false
ends_well AuditFull = false

-- the loop into the gate left opens without an answer
abbrev pub leaves_opens : End → Bool
leaves_opens Done = false
leaves_opens ReadFault = false
leaves_opens WriteFault = false
leaves_opens Frame = false
leaves_opens Closed = false
leaves_opens Memory = true
leaves_opens AuditFull = true

-- the gravest end of the loops round a port and of its service, whose own loops ended so
abbrev pub gravest_of : PortEnds → End → End
gravest_of port service = graver (graver port.into port.out) service

-- the same beside another service: where opens were left without an answer, that is the end, whatever followed it
abbrev pub end_beside : PortEnds → End → End
end_beside port service = if leaves_opens port.into then port.into else gravest_of port service

-- the end of two services: where one was lost and the other came to a good end, that good end; else the graver
abbrev pub end_of_both : End → End → End
end_of_both first spare =
    if is_lost first && ends_well spare then spare
    else (if is_lost spare && ends_well first then first else graver first spare)

-- the end of a host whose only service came to some end
abbrev pub EndsAlone : PortEnds → End → Type 0
EndsAlone port end = (service : End) × (end ≡ gravest_of port service)

-- the end of a host whose two services came to some ends
abbrev pub EndsBeside : PortEnds → PortEnds → End → Type 0
EndsBeside at_first at_spare end = (first spare : End) × (end ≡ end_of_both (end_beside at_first first) (end_beside at_spare spare))
