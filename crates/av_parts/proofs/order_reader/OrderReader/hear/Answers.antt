use Rattle.std.proofs.Common.{sym, ◌∙◌, ap, subst, arith}
use Rattle.av_parts.specs.Heard.{HasLeft, Hearing, heard_of}
use Rattle.av_parts.proofs.HearLemmas.{orders_stopped, part_heard}
use Rattle.av_parts.proofs.order_reader.OrderReader.hear.Goals as goal

pub returns-in-Some-clause-fault : goal.returns-in-Some-clause-fault
returns-in-Some-clause-fault c =
    let is = ap (λ r. r.fault) (sym c.self.view_is) ∙ c.in-Some.is in
    (orders_stopped c.args.piece.now c.args.self.now c.in-Some.fault is, is)

pub returns-in-Within-clause-heard : goal.returns-in-Within-clause-heard
returns-in-Within-clause-heard c =
    let r : Hearing = record { front = c.self.inside.front.items; place = c.self.inside.place; fault = c.self.inside.fault } in
    let left = subst HasLeft c.in-Within.is c.self.invariant.1 in
    part_heard c.args.piece.now c.min-taken.result c.in-Within.number c.in-Within.left r _ c.in-Within.is c.in_default.is
    (grind (arith, c.min-taken.ensures, left, c.if-is_empty.false)) (grind (arith, c.min-taken.ensures)) (grind (arith, c.min-taken.ensures))
    (ap (λ p. record r { place = p }) c.within-self-inside.ensures.place)
    ∙ ap (heard_of c.args.piece.now) c.self.view_is
