-- A desk may be shared by threads: what lies under its lock may go from one to another.
use denote.Param.Send.{IsSend, IsSync, sendable}
use Rattle.std.proofs.Crossing.{crosses}
use Rattle.av_desk.proofs.shared.SharedAutomaton.TheSendSync as automaton
use Rattle.av_desk.specs.contracts.desk.Desk as Desk
use Rattle.av_desk.specs.contracts.desk.Inner as Inner
use Rattle.av_desk.specs.contracts.entry.DeskEntry as Entry
use Rattle.av_desk.specs.contracts.given.GivenWork as Given
use Rattle.av_desk.specs.contracts.locked.Locked as Locked
use Rattle.av_frame.proofs.message.Message.TheSendSync as message
use Rattle.av_service.proofs.content_scan.ContentScan.TheSendSync as scan
use Rattle.av_service.proofs.service.Service.TheSendSync as service
use Rattle.av_sigset.proofs.catalogue.Catalogue.TheSendSync as catalogue

given_send : IsSend Given.the_row
given_send = search (sendable, crosses, scan.the_send) depth 40

entry_send : IsSend Entry.the_row
entry_send = search (sendable, crosses, message.the_send, given_send, scan.the_send) depth 60

locked_send : IsSend Locked.the_row
locked_send = search (sendable, crosses, entry_send, service.the_send, catalogue.the_send, automaton.the_send) depth 40

inner_send : IsSend Inner.the_row
inner_send = search (sendable, crosses, locked_send) depth 40

pub desk_sync : IsSync Desk.the_row
desk_sync = search (sendable, crosses, inner_send) depth 40
