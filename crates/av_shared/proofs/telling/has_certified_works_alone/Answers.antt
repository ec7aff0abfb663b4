use denote.Param.Send.{sendable}
use Rattle.std.proofs.Crossing.{crosses}
use Rattle.std.proofs.lemmas.Result.{IfOk-weaker}
use Rattle.av_shared.proofs.Crossing.{desk_audit_sync, gate_audit_sync}
use Rattle.av_shared.proofs.telling.has_certified_works_alone.Goals as goal

pub both-is_one-requires-send-F : goal.both-is_one-requires-send-F
both-is_one-requires-send-F g c κs within = search (sendable, crosses, desk_audit_sync, gate_audit_sync) depth 60

pub returns : goal.returns
returns g c =
    IfOk-weaker c.both-is_one.result.1 _ _ (λ v own yes. c.both-is_one.ensures.one c.if-not-is_one.false (own yes)) c.both-is_one.ensures.other
