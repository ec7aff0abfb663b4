use Rattle.std.proofs.Common.{arith, add-one}
use Rattle.std.proofs.Math.Seq.{drop-length}
use Rattle.std.proofs.lemmas.List.{take_rest}
use Rattle.av_base.proofs.LineLemmas.{lines_of-ends, lines_of-whole}
use Rattle.av_base.proofs.line.first_line.Goals as goal

pub returns-then-b-eq-LF-clause-lines : goal.returns-then-b-eq-LF-clause-lines
returns-then-b-eq-LF-clause-lines c =
    rw (take_rest, add-one) (lines_of-ends c.args.bytes.now c.loop-i.i c.loop-i-test.true c.if-b-eq-LF.true c.loop-i.invariant)

pub returns-clause-lines : goal.returns-clause-lines
returns-clause-lines c =
    rw (take_rest, drop-length) (lines_of-whole c.args.bytes.now c.requires (λ k h. c.loop-i.invariant k (omega arith)))
