use denote.Param.Send.{sendable}
use Rattle.std.proofs.Crossing.{crosses}
use Rattle.av_desk.proofs.Crossing.{desk_sync}
use Rattle.av_desk.proofs.tests.threads.awaited.Goals as goal

pub join-sent-requires-send-F : goal.join-sent-requires-send-F
join-sent-requires-send-F g c κs within = search (sendable, crosses, desk_sync) depth 60
