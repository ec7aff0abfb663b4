use denote.Param.Send.{sendable}
use Rattle.std.proofs.Crossing.{crosses}
use Rattle.av_gate.proofs.gate.Gate.TheSendSync as gate
use Rattle.av_gate.proofs.seat.Seat.TheSendSync as seat
use Rattle.av_host.proofs.carrying.LoopDirection.TheSendSync as way
use Rattle.av_host.proofs.wire.PortWire.TheSendSync as line
use Rattle.av_host.proofs.crew.start_loop.Goals as goal

pub spawn-started-requires-send-F : goal.spawn-started-requires-send-F
spawn-started-requires-send-F g c κs within = search (sendable, crosses, gate.the_sync, seat.the_send, way.the_send, line.the_send) depth 60
