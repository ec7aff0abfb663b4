-- What holds of a run whose audits were put together.
use Rattle.std.specs.Prelude.{List, Option}
use Rattle.av_desk.specs.declared.audit.Audit.{Audit as DeskAudit}
use Rattle.av_filter.specs.Once.{AuditAnswersOnce}
use Rattle.av_gate.specs.Claims.{table_of}
use Rattle.av_gate.specs.declared.audit.Audit.{Audit as GateAudit}
use Rattle.av_shared.specs.History.{AreOneHistory, sets_at, told_at}
use Rattle.av_store.specs.Files.{File}
use Rattle.av_store.specs.Seen.{Keeps}
use Rattle.av_history.specs.Audits.{AuditsGrantOnlyClean, AuditsHoldOneVerdict, SideEntry}

-- the headline of a history, of the files that the gate's volume kept at first
pub record HoldsOver (gate : GateAudit) (desk : DeskAudit) (spare : Option DeskAudit) (history : List SideEntry) : Type 0 where
  pub files : List File
  pub kept : Keeps gate.volume files
  pub one_verdict : AuditsHoldOneVerdict files (table_of gate) gate.volume (told_at desk spare) (sets_at desk spare) history
  pub only_clean : AuditsGrantOnlyClean gate.mode files (sets_at desk spare) history

-- there is one history of all, over which the headline holds, and each open waits or was answered, only once
pub record IsCertified (gate : GateAudit) (desk : DeskAudit) (spare : Option DeskAudit) : Type 0 where
  pub history : List SideEntry
  pub one : AreOneHistory gate desk spare history
  pub holds : HoldsOver gate desk spare history
  pub once : AuditAnswersOnce (table_of gate) gate.volume gate.events.items
