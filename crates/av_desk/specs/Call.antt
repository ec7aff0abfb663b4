-- What the calls of a locked desk answer.
use Rattle.std.specs.Prelude.{ℕ, ◌≡◌, nat_le, List, length, Option, None, Some, Result, Ok, Err, if◌then◌else◌}
use Rattle.av_base.specs.declared.refusal.Refusal.{Refusal}
use Rattle.av_base.specs.declared.refusal.Refusal.TheVariants.{Fault, NoMemory}
use Rattle.av_base.specs.declared.refusal.Refused.{Refused}
use Rattle.av_desk.specs.Book.{Book, with_event}
use Rattle.av_desk.specs.declared.fault.DeskFault.{DeskFault}
use Rattle.av_desk.specs.declared.fault.DeskFault.TheVariants as fault
use Rattle.av_service.specs.Audit.{Call}
use Rattle.av_service.specs.declared.fault.ConnectFault.{ConnectFault}
use Rattle.av_service.specs.declared.fault.ConnectFault.TheVariants as connect
use Rattle.av_sigset.specs.Publication.{Publication, latest_as}
use Rattle.av_sigset.specs.declared.catalogue.TheConstants.{MAX_SETS}

-- a full audit comes before any other fault
abbrev pub fault_of : Book → Option DeskFault → Option DeskFault
fault_of b other = if nat_le b.limits.audit (length b.events) then Some fault.AuditFull else other

-- why the service does not connect, and why the catalogue takes no set
abbrev pub of_connect : Option ConnectFault → Option DeskFault
of_connect None = None
of_connect (Some connect.NoSignatures) = Some fault.NoSignatures
of_connect (Some connect.AlreadyConnected) = Some fault.AlreadyConnected

-- why a version cannot be published: it is no later than the latest, or the catalogue is full
abbrev pub publish_fault : List Publication → ℕ → Option DeskFault
publish_fault sets version =
    if nat_le version (latest_as sets) then Some fault.OldVersion
    else if nat_le MAX_SETS (length sets) then Some fault.CatalogueFull else None

-- A call took the book to b'. It is refused by its fault, or for want of memory where it has none, and changes nothing then;
-- else the event is one more.
abbrev pub Refuses : Book → Book → Option DeskFault → Refusal DeskFault → Type 0
Refuses b b' why (Fault f) = (why ≡ Some f) × (b' ≡ b)
Refuses b b' why NoMemory = (why ≡ None) × (b' ≡ b)

-- a call added its event to the book, or was refused and left the book as it was
abbrev pub Adds : {A : Type 0} → Book → Book → Call → Option DeskFault → Result A (Refusal DeskFault) → Type 0
Adds b b' call why (Ok a) = (why ≡ None) × (b' ≡ with_event b call)
Adds b b' call why (Err refusal) = Refuses b b' why refusal

-- the same of a call that consumes a value, which a refusal hands back
abbrev pub AddsOrReturns : {A V : Type 0} → Book → Book → Call → Option DeskFault → V → Result A (Refused V DeskFault) → Type 0
AddsOrReturns b b' call why value (Ok a) = (why ≡ None) × (b' ≡ with_event b call)
AddsOrReturns b b' call why value (Err refused) = (refused.value ≡ value) × Refuses b b' why refused.why
