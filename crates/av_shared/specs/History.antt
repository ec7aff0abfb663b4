-- The audits of a gate, of its desk and of a spare, if there is one, put together.
use Rattle.std.specs.Prelude.{◌≡◌, List, [], map, Option, None, Some, if◌then◌else◌}
use Rattle.av_base.specs.Port.{other, same_port}
use Rattle.av_base.specs.declared.port.Port.{Port}
use Rattle.av_desk.specs.Audit.{opened_by, started_by}
use Rattle.av_desk.specs.Book.{sets_end as desk_sets_end}
use Rattle.av_desk.specs.declared.audit.Audit.{Audit as DeskAudit}
use Rattle.av_gate.specs.declared.audit.Audit.{Audit as GateAudit}
use Rattle.av_service.specs.Audit.{IsCatalogue, IsServiceAudit, ServiceEntry}
use Rattle.av_sigset.specs.Publication.{Publication, publication_of}
use Rattle.av_history.specs.Audits.{AreOneSets, FinishesItsWorks, IsDelivered, SideEntry, filter_side, service_side, sets_end}
use Rattle.av_history.specs.Scene.{Started}

-- ---- a spare that may be none

-- what happened to it
abbrev pub events_of : Option DeskAudit → List ServiceEntry
events_of None = []
events_of (Some a) = a.events.items

-- its publications before its first event
abbrev pub opened_as : Option DeskAudit → List Publication
opened_as None = []
opened_as (Some a) = opened_by a

-- ---- both desks, each by the port that its audit names

-- what a desk was told at its start
abbrev pub told_by : DeskAudit → Started
told_by a = record { number = a.volume_number; limits = a.limits }

-- the same of a spare; where there is none it does not matter
abbrev pub told_as : DeskAudit → Option DeskAudit → Started
told_as desk None = told_by desk
told_as desk (Some a) = told_by a

-- of each port: what the service there was told
abbrev pub told_at : DeskAudit → Option DeskAudit → Port → Started
told_at desk spare port = if same_port desk.port port then told_by desk else told_as desk spare

-- the publications before its first event
abbrev pub sets_at : DeskAudit → Option DeskAudit → Port → List Publication
sets_at desk spare port = if same_port desk.port port then opened_by desk else opened_as spare

-- and what happened to it
abbrev pub entries_at : DeskAudit → Option DeskAudit → Port → List ServiceEntry
entries_at desk spare port = if same_port desk.port port then desk.events.items else events_of spare

-- what `close` says of the audit of a desk
pub record IsDeskAudit (a : DeskAudit) : Type 0 where
  pub legal : IsServiceAudit (opened_by a) (started_by a) a.events.items
  pub catalogue : IsCatalogue (opened_by a)
  pub sets : map publication_of a.catalogue.sets ≡ desk_sets_end (opened_by a) a.events.items

-- the same of a spare, where there is one, and that it was at the other port
pub record IsSpareBeside (desk a : DeskAudit) : Type 0 where
  pub audit : IsDeskAudit a
  pub port : a.port ≡ other desk.port

abbrev pub IsSpare : DeskAudit → Option DeskAudit → Type 0
IsSpare desk None = Unit {0}
IsSpare desk (Some a) = IsSpareBeside desk a

-- a version names one set, whichever of the two desks it was published to
abbrev pub HaveOneSets : DeskAudit → Option DeskAudit → Type 0
HaveOneSets desk None = Unit {0}
HaveOneSets desk (Some a) =
    AreOneSets (sets_end (opened_by desk) desk.events.items) (sets_end (opened_by a) a.events.items)

-- the history has the events of all, each side's in its order, and each message that came had been sent by the other side before
pub record IsMerge (gate : GateAudit) (desk : DeskAudit) (spare : Option DeskAudit) (history : List SideEntry) : Type 0 where
  pub filter : filter_side history ≡ gate.events.items
  pub services : (port : Port) → service_side port history ≡ entries_at desk spare port
  pub delivered : IsDelivered [] [] history

-- the spare, if there is one, was at the other port, and there is such a history
pub record HaveHistory (gate : GateAudit) (desk : DeskAudit) (spare : Option DeskAudit) : Type 0 where
  pub beside : IsSpare desk spare
  pub history : List SideEntry
  pub merge : IsMerge gate desk spare history

-- each work that came back to a desk is one that it lent, run under the set of its version
abbrev pub AreOwnWorks : DeskAudit → Option DeskAudit → Type 0
AreOwnWorks desk spare = (port : Port) → FinishesItsWorks (sets_at desk spare port) [] (entries_at desk spare port)

-- one history of all: the merge of their events, and of each desk its own works
pub record AreOneHistory (gate : GateAudit) (desk : DeskAudit) (spare : Option DeskAudit) (history : List SideEntry) : Type 0 where
  pub merge : IsMerge gate desk spare history
  pub works : AreOwnWorks desk spare
