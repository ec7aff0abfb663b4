use Rattle.std.proofs.Common.{arith, rules}
use Rattle.std.specs.Prelude.{IsSome}
use Rattle.avguard.proofs.AskLemmas.{forgot_length}
use Rattle.avguard.proofs.inquiry.ask_one.Goals as goal

pub returns-in_err-size-2-clause-tags : goal.returns-in_err-size-2-clause-tags
returns-in_err-size-2-clause-tags g c = λ first. c.ask_once-in-tries.ensures.tags (c.forget_last.ensures.tags (c.tries.invariant.1 first))

pub tries-preserved : goal.tries-preserved
tries-preserved g c =
    let some : IsSome c.forget_last.result = search rules in (
      omega (arith, c.in_ok-size-2.ensures.asked, c.tries.invariant.0, forgot_length c.tries.asker.answers.items c.forget_last.new.self.answers.items c.forget_last.result c.forget_last.ensures.last some),
      λ first. c.ask_once-in-tries.ensures.tags (c.forget_last.ensures.tags (c.tries.invariant.1 first)),
      λ each. c.ask_once-in-tries.ensures.owed (c.forget_last.ensures.each (c.tries.invariant.2 each)),
    )
