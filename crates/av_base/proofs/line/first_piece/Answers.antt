use Rattle.std.proofs.Common.{arith, add-one}
use Rattle.std.proofs.lemmas.List.{take_rest}
use Rattle.av_base.proofs.LineLemmas.{pieces_of-ends, pieces_of-whole}
use Rattle.av_base.proofs.line.first_piece.Goals as goal

pub returns-then-b-separator-clause-pieces : goal.returns-then-b-separator-clause-pieces
returns-then-b-separator-clause-pieces c =
    rw (take_rest, add-one) (pieces_of-ends c.args.separator c.args.bytes.now c.loop-i.i c.loop-i-test.true c.if-b-separator.true c.loop-i.invariant)

pub returns-clause-pieces : goal.returns-clause-pieces
returns-clause-pieces c = pieces_of-whole c.args.separator c.args.bytes.now (λ k h. c.loop-i.invariant k (omega arith))
