use Rattle.std.specs.Prelude.{ℕ, ◌≤◌, ⊤, List, [], ◌∷◌, if◌then◌else◌, nat_lt}
use Rattle.av_frame.specs.declared.end.End.{End}
use Rattle.av_frame.specs.declared.end.End.TheVariants as end
use Rattle.av_status.specs.declared.status.Status.{Status}
use Rattle.av_status.specs.declared.status.Status.TheVariants.{Done, Refused, Usage, Memory, Device, Found, FoundInPart}

-- the exit status of the process
abbrev pub number_of : Status → ℕ
number_of Done = 0
number_of Refused = 1
number_of Usage = 2
number_of Memory = 3
number_of Device = 4
number_of Found = 5
number_of FoundInPart = 6

-- a run came to its end: nothing failed, or what failed was passed over beside what was found
abbrev pub EndsWell : Status → Type 0
EndsWell Done = ⊤
EndsWell Refused = ⊥
EndsWell Usage = ⊥
EndsWell Memory = ⊥
EndsWell Device = ⊥
EndsWell Found = ⊤
EndsWell FoundInPart = ⊤

-- something failed, and the status says so alone
abbrev pub IsFault : Status → Type 0
IsFault Done = ⊥
IsFault Refused = ⊤
IsFault Usage = ⊤
IsFault Memory = ⊤
IsFault Device = ⊤
IsFault Found = ⊥
IsFault FoundInPart = ⊥

-- all was done, or something failed
abbrev pub IsDoneOrFault : Status → Type 0
IsDoneOrFault Done = ⊤
IsDoneOrFault s = IsFault s

-- of two statuses the one with the greater number
abbrev pub graver_status : Status → Status → Status
graver_status one other = if nat_lt (number_of one) (number_of other) then other else one

-- what went wrong is at least as grave as this
abbrev pub IsAsGrave : Status → Status → Type 0
IsAsGrave least ended = number_of least ≤ number_of ended

-- the status for the end of a loop over a stream of frames. That the other side closed it is no fault of its own.
abbrev pub status_of_end : End → Status
status_of_end end.Done = Done
status_of_end end.Closed = Done
status_of_end end.Frame = Refused
status_of_end end.AuditFull = Refused
status_of_end end.Memory = Memory
status_of_end end.ReadFault = Device
status_of_end end.WriteFault = Device

-- of two ends the one whose status is the greater, the first of two that have the same
abbrev pub graver : End → End → End
graver one other = if nat_lt (number_of (status_of_end one)) (number_of (status_of_end other)) then other else one

-- the gravest of an end and of those that follow it
abbrev pub gravest_from : End → List End → End
gravest_from before [] = before
gravest_from before (e ∷ es) = gravest_from (graver before e) es
