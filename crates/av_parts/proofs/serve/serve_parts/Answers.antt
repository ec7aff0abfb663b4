use Rattle.av_parts.proofs.RunLemmas.{fails_to_serve, serves, serves_nothing}
use Rattle.av_parts.proofs.serve.serve_parts.Goals as goal

pub returns-in_default : goal.returns-in_default
returns-in_default g c = serves_nothing _ _ _ _ _

pub returns-in-Ok-write_out : goal.returns-in-Ok-write_out
returns-in-Ok-write_out g c =
    serves _ c.in-Ok.ensures.orders c.in-Ok.ensures.judge c.in-Ok.ensures.waits c.hear_all-end.ensures c.in-Ok-write_out.ensures.writes

pub returns : goal.returns
returns g c =
    fails_to_serve _ _ c.in-Ok.ensures.orders c.in-Ok.ensures.judge c.in-Ok.ensures.waits c.hear_all-end.ensures c.in-Err.ensures.writes c.in-Err.ensures.err
