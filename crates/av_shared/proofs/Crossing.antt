-- Audits may be looked at by several threads at once.
use denote.Param.Send.{IsSync, sendable}
use Rattle.std.proofs.Crossing.{crosses}
use Rattle.av_base.proofs.byte_list.ByteList.TheSendSync as bytes
use Rattle.av_desk.specs.contracts.audit.Audit as DeskAudit
use Rattle.av_desk.specs.contracts.entry.DeskEntry as DeskEntry
use Rattle.av_desk.specs.contracts.given.GivenWork as Given
use Rattle.av_frame.proofs.message.Message.TheSendSync as message
use Rattle.av_gate.specs.contracts.audit.Audit as GateAudit
use Rattle.av_gate.specs.contracts.entry.GateEntry as GateEntry
use Rattle.av_service.proofs.content_scan.ContentScan.TheSendSync as scan
use Rattle.av_sigset.proofs.catalogue.Catalogue.TheSendSync as catalogue
use Rattle.av_store.proofs.volume.Volume.TheSendSync as volume

given_sync : IsSync Given.the_row
given_sync = search (sendable, crosses, scan.the_sync) depth 40

desk_entry_sync : IsSync DeskEntry.the_row
desk_entry_sync = search (sendable, crosses, message.the_sync, given_sync, scan.the_sync) depth 60

pub desk_audit_sync : IsSync DeskAudit.the_row
desk_audit_sync = search (sendable, crosses, desk_entry_sync, catalogue.the_sync) depth 60

gate_entry_sync : IsSync GateEntry.the_row
gate_entry_sync = search (sendable, crosses, message.the_sync, bytes.the_sync) depth 60 fits 40000

pub gate_audit_sync : IsSync GateAudit.the_row
gate_audit_sync = search (sendable, crosses, gate_entry_sync, volume.the_sync) depth 60
