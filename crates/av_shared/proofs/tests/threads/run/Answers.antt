use denote.Param.Send.{sendable}
use Rattle.std.proofs.Crossing.{crosses}
use Rattle.av_desk.proofs.Crossing.{desk_sync}
use Rattle.av_gate.proofs.gate.Gate.TheSendSync as gate
use Rattle.av_gate.proofs.seat.Seat.TheSendSync as seat
use Rattle.av_shared.proofs.tests.threads.run.Goals as goal

pub join-calls-requires-send-F : goal.join-calls-requires-send-F
join-calls-requires-send-F g c κs within = search (sendable, crosses, desk_sync, gate.the_sync, seat.the_send) depth 60
