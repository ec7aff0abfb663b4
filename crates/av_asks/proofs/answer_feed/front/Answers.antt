use Rattle.std.proofs.Common.{arith, sym}
use Rattle.av_asks.proofs.AnswerLemmas.{found}
use Rattle.av_asks.proofs.answer_feed.front.Goals as goal

pub returns-in_ok-answer-in-Whole-clause-frame : goal.returns-in_ok-answer-in-Whole-clause-frame
returns-in_ok-answer-in-Whole-clause-frame c =
    found c.args.rest.now c.in-Whole.size _ c.read_head.result (c.in_ok-answer-in-Whole.answer) (λ i. omega (arith, c.type_inv.rest i)) c.read_head.ensures.exact c.in-Whole.is (omega arith) (sym c.in_ok-answer-in-Whole.ensures)
