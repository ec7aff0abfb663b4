use denote.Param.Send.{sendable}
use Rattle.std.proofs.Crossing.{crosses}
use Rattle.av_desk.proofs.Crossing.{desk_sync}
use Rattle.av_pool.proofs.giver.Giver.TheSendSync as giver
use Rattle.av_pool.proofs.taker.Taker.TheSendSync as taker
use Rattle.av_host.proofs.wire.Wire.TheSendSync as wire
use Rattle.av_host.proofs.crew.Serving.start.Goals as goal

pub spawn_with-started-requires-send-F : goal.spawn_with-started-requires-send-F
spawn_with-started-requires-send-F g c κs within = search (sendable, crosses, desk_sync, giver.the_send, taker.the_send, wire.the_sync) depth 60
