use Rattle.std.proofs.Common.{Ok, Err, ap, subst, ◌∙◌, arith}
use Rattle.std.specs.Prelude.{IfOk}
use Rattle.av_base.specs.Answers.{Reads}
use Rattle.av_frame.specs.Reading.{decoded}
use Rattle.av_frame.specs.Spelling.{Spells}
use Rattle.av_frame.proofs.SpellingLemmas.{decoded-spelling}
use Rattle.av_frame.proofs.ReadingLemmas.{decoded_spells}
use Rattle.av_frame.proofs.FaultLemmas.{decoded_errs}
use Rattle.av_frame.proofs.decode.decode.Goals as goal

pub returns-clause-found : goal.returns-clause-found
returns-clause-found c =
    elim c.parts.result as (λ r. Reads r (decoded c.args.body.now) → IfOk r (λ m. Spells c.args.body.now m)) [
      | Ok m ↦ λ e. decoded_spells c.args.body.now m (λ i. omega (arith, c.type_inv.body i)) e
      | Err d ↦ λ e. tt
    ] c.parts.ensures.exact

pub returns-clause-only : goal.returns-clause-only
returns-clause-only c = λ m spells.
    subst (Reads c.parts.result) (ap decoded spells.1 ∙ decoded-spelling m spells.0) c.parts.ensures.exact

pub returns-clause-fault : goal.returns-clause-fault
returns-clause-fault c = λ f is.
    let exact = subst (λ r. Reads r (decoded c.args.body.now)) is c.parts.ensures.exact in
    decoded_errs c.args.body.now f exact
