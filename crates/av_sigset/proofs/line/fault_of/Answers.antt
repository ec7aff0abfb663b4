use Rattle.std.proofs.Common.{arith, inl, inr, sym, ◌∙◌}
use Rattle.std.proofs.lemmas.Bool.Decides.{nat_tests}
use Rattle.av_sigset.proofs.DigitsLemmas.{not_hex, wrong_length, spells}
use Rattle.av_sigset.proofs.line.fault_of.Goals as goal
use Rattle.av_sigset.proofs.line.fault_of.Goals.{then-is_empty-via-then-is_empty, then-is_empty-via-else-is_empty+then-digits}

pub returns-then-not-is_hex : goal.returns-then-not-is_hex
returns-then-not-is_hex c = not_hex c.args.digits.now (sym c.is_hex.ensures ∙ c.if-not-is_hex.true)

pub returns-then-is_empty : goal.returns-then-is_empty
returns-then-is_empty c =
    let hex = sym c.is_hex.ensures ∙ c.if-not-is_hex.false in
    elim c.then-is_empty.branch [
      | then-is_empty-via-then-is_empty w ↦ wrong_length c.args.digits.now hex (inl (grind (arith, nat_tests)))
      | then-is_empty-via-else-is_empty+then-digits w ↦ wrong_length c.args.digits.now hex (inr (omega arith))
    ]

pub returns : goal.returns
returns c = spells c.args.digits.now (sym c.is_hex.ensures ∙ c.if-not-is_hex.false) (grind (arith, nat_tests)) (omega arith)
