use Rattle.std.proofs.Common.{Some, sym, ◌∙◌, ap, arith}
use Rattle.av_asks.specs.Speaking.{Speaking, heard_of}
use Rattle.av_asks.proofs.ContentLemmas.{part_heard, same_fault, stopped}
use Rattle.av_asks.proofs.client_reader.ClientReader.hear.Goals as goal

pub returns-in-Some-clause-fault : goal.returns-in-Some-clause-fault
returns-in-Some-clause-fault c = λ f e.
    let is = ap (λ r. r.fault) (sym c.self.view_is) ∙ c.in-Some.is in
    (stopped c.args.piece.now c.args.self.now c.in-Some.fault is, is ∙ ap Some (same_fault c.in-Some.fault f e))

pub returns-in-Some-content-clause-heard : goal.returns-in-Some-content-clause-heard
returns-in-Some-content-clause-heard c =
    let s : Speaking = record { front = c.self.inside.front.items; content = c.self.inside.content; fault = c.self.inside.fault } in
    part_heard c.args.piece.now c.min-taken.result c.in-Some-content.content s _ c.in-Some-content.is c.in_default.is
    (grind (arith, c.min-taken.ensures, c.if-content-gt0.true, c.if-is_empty.false)) (grind (arith, c.min-taken.ensures)) (grind (arith, c.min-taken.ensures))
    (ap (λ d. record s { content = Some d }) c.gone_on.ensures)
    ∙ ap (heard_of c.args.piece.now) c.self.view_is
