use Rattle.std.proofs.Common.{rules, arith, subst}
use Rattle.std.specs.List.{All}
use Rattle.std.proofs.lemmas.List.{take_all}
use Rattle.std.proofs.lemmas.List.Elements.{All-more}
use Rattle.av_gate.specs.Claims.{Rises}
use Rattle.av_gate.proofs.checks.all_rise.Goals as goal

pub loop-seat-preserved : goal.loop-seat-preserved
loop-seat-preserved c =
    let P = Rises c.args.start.now c.args.events.now in
    let here : P c.seat-item.result = search (rules) in
    All-more P c.args.seats.now c.loop-seat.seat-index c.seat-item.result (omega arith) c.loop-seat.invariant (subst P c.seat-item.is here)

pub returns : goal.returns
returns c t =
    let P = Rises c.args.start.now c.args.events.now in
    subst (λ l. All P l) (take_all c.loop-seat.seat-index c.args.seats.now (omega arith)) c.loop-seat.invariant
