use Rattle.std.proofs.Common.{refl}
use Rattle.av_parts.proofs.CourseLemmas.{both_ok, if_err}
use Rattle.av_parts.proofs.RunLemmas.{came, goes_on, has_closed, stops_amid, stops_closed, stops_unread, stops_unrenewed, stops_unwritten}
use Rattle.av_parts.proofs.serve.Engine.turn.Goals as goal

pub returns-in-Err-clause-err : goal.returns-in-Err-clause-err
returns-in-Err-clause-err g c = stops_unwritten _ c.in-Err.ensures.err c.write_out.ensures.empty c.in-Err.ensures.writes

pub returns-in-Ok-None-clause-err : goal.returns-in-Ok-None-clause-err
returns-in-Ok-None-clause-err g c =
    stops_closed _ c.write_out.ensures.empty c.in-Ok.ensures.writes c.closed.ensures (has_closed _ _ _ _ c.in-Ok-None.field-0-is c.in-Ok-None.ensures.ok)

pub returns-in-Err-read_piece-clause-err : goal.returns-in-Err-read_piece-clause-err
returns-in-Err-read_piece-clause-err g c =
    stops_unread _ c.write_out.ensures.empty c.in-Ok.ensures.writes c.in-Err-read_piece.ensures.err.0 c.in-Err-read_piece.ensures.err.1

pub returns-in-Ok-look-clause-ok : goal.returns-in-Ok-look-clause-ok
returns-in-Ok-look-clause-ok g c =
    both_ok c.hear.result
    (λ orders obeys. goes_on c.write_out.ensures.empty c.in-Ok.ensures.writes (came _ _ _ _ _ _ c.in-Ok-Some.field-0-is c.deref.ensures.value c.in-Ok-Some.ensures.ok) c.in-Ok-look.ensures.orders c.in-Ok-look.ensures.ok orders obeys)
    c.hear.ensures.orders c.hear.ensures.ok

pub returns-in-Ok-look-clause-err : goal.returns-in-Ok-look-clause-err
returns-in-Ok-look-clause-err g c =
    if_err c.hear.result
    (λ e amid. stops_amid e c.write_out.ensures.empty c.in-Ok.ensures.writes (came _ _ _ _ _ _ c.in-Ok-Some.field-0-is c.deref.ensures.value c.in-Ok-Some.ensures.ok) c.in-Ok-look.ensures.orders c.in-Ok-look.ensures.ok amid)
    c.hear.ensures.err

pub returns-in-Err-look-clause-err : goal.returns-in-Err-look-clause-err
returns-in-Err-look-clause-err g c =
    stops_unrenewed _ c.write_out.ensures.empty c.in-Ok.ensures.writes (came _ _ _ _ _ _ c.in-Ok-Some.field-0-is refl c.in-Ok-Some.ensures.ok) c.in-Err-look.ensures.err
