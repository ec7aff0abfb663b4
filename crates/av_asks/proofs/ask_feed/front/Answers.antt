use Rattle.std.proofs.Common.{arith, sym}
use Rattle.av_asks.proofs.HeadLemmas.{waits_short}
use Rattle.av_asks.specs.Spelling.{asked}
use Rattle.av_asks.proofs.AskLemmas.{found}
use Rattle.av_asks.proofs.ask_feed.front.Goals as goal

pub returns-in-Waits-clause-short : goal.returns-in-Waits-clause-short
returns-in-Waits-clause-short c = λ none. waits_short c.args.rest.now (sym c.in-Waits.ensures.exact)

pub returns-in_ok-ask-in-Whole-clause-frame : goal.returns-in_ok-ask-in-Whole-clause-frame
returns-in_ok-ask-in-Whole-clause-frame c =
    found c.args.rest.now c.in-Whole.size _ c.read_head.result (asked c.in_ok-ask-in-Whole.ask) (λ i. omega (arith, c.type_inv.rest i)) c.read_head.ensures.exact c.in-Whole.is (omega arith) c.in_ok-ask-in-Whole.ensures
