use Rattle.std.proofs.Common.{ap, refl, sym, ◌∙◌}
use Rattle.av_sockets.specs.declared.group.Group.{Group}
use Rattle.av_sockets.proofs.GroupLemmas.{none_opened, on_err, opens_in_part, opens_streams, sure, whole_part}
use Rattle.av_sockets.proofs.filter.open_group.Goals as goal

pub returns-in_default-clause-part : goal.returns-in_default-clause-part
returns-in_default-clause-part g c = none_opened _ _ _ _ _ _ refl

pub returns-in_err-tell-clause-part : goal.returns-in_err-tell-clause-part
returns-in_err-tell-clause-part g c = on_err c.from_residual.result
    (opens_in_part _ _ _ _ _ _ _ _ _ c.meet.ensures.mount (ap (λ (k : Group). k.names.items) (c.in-Ok.ensures.group ∙ c.meet.ensures.group)) c.in-Ok.ensures.led c.in-Ok.ensures.still c.in_err-tell.ensures.part)

pub returns-then-is_err-clause-part : goal.returns-then-is_err-clause-part
returns-then-is_err-clause-part g c =
    opens_in_part _ _ _ _ _ _ _ _ _ c.meet.ensures.mount (ap (λ (k : Group). k.names.items) (c.in-Ok.ensures.group ∙ c.meet.ensures.group)) c.in-Ok.ensures.led c.in-Ok.ensures.still
    (whole_part _ _ _ _ _ _ _ _ _ c.in_ok-tell.ensures.told)

pub returns-clause-opened : goal.returns-clause-opened
returns-clause-opened g c =
    opens_streams _ _ _ _ _ _ _ _ _ _ _ _ c.meet.ensures.mount (ap (λ (k : Group). k.names.items) (c.in-Ok.ensures.group ∙ c.meet.ensures.group)) c.in-Ok.ensures.led c.in-Ok.ensures.still c.in_ok-tell.ensures.told
    (sure c.clear.result (sym c.is_err.ensures.value ∙ c.if-is_err.false) c.clear.ensures.led)
