use denote.Param.Send.{sendable}
use Rattle.std.proofs.Crossing.{crosses}
use Rattle.av_desk.proofs.Crossing.{desk_sync}
use Rattle.av_desk.proofs.tests.threads.shared_by_two.Goals as goal
use Rattle.av_frame.proofs.message.Message.TheSendSync as message

pub join-judged-requires-send-F : goal.join-judged-requires-send-F
join-judged-requires-send-F g c κs within = search (sendable, crosses, desk_sync, message.the_send) depth 60
