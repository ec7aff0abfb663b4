use denote.Param.Send.{sendable}
use Rattle.std.proofs.Crossing.{crosses}
use Rattle.av_desk.proofs.Crossing.{desk_sync}
use Rattle.av_gate.proofs.gate.Gate.TheSendSync as gate
use Rattle.av_shared.proofs.tests.threads.carried.Goals as goal

pub join-down-requires-send-F : goal.join-down-requires-send-F
join-down-requires-send-F g c κs within = search (sendable, crosses, desk_sync, gate.the_sync) depth 60
