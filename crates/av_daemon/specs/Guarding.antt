-- How a guard ends.
use Rattle.av_status.specs.declared.status.Status.{Status}
use Rattle.av_status.specs.declared.status.Status.TheVariants.{Done, Refused, Usage, Memory, Device, Found, FoundInPart}

-- for want of memory, or since the system failed
abbrev pub IsFailed : Status → Type 0
IsFailed Done = ⊥
IsFailed Refused = ⊥
IsFailed Usage = ⊥
IsFailed Memory = Unit {0}
IsFailed Device = Unit {0}
IsFailed Found = ⊥
IsFailed FoundInPart = ⊥
