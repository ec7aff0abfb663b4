use Rattle.std.proofs.Common.{arith, ◌∙◌, sym, ◌<◌, length}
use Rattle.std.proofs.lemmas.Bool.Decides.{nat_tests}
use Rattle.av_import.proofs.HexLemmas.{too_long, spells, even_or_odd}
use Rattle.av_import.proofs.hexadecimal.fault_of.Goals as goal

pub returns-then-text : goal.returns-then-text
returns-then-text c =
    too_long c.args.text.now (sym c.are_digits.ensures ∙ c.if-not-are_digits.false) (even_or_odd _ c.if-text-eq1.false) c.if-text.true

pub returns : goal.returns
returns c =
    let some : 0 < length c.args.text.now = grind (arith, nat_tests, c.if-is_empty.ensures) in
    spells c.args.text.now (sym c.are_digits.ensures ∙ c.if-not-are_digits.false) (even_or_odd _ c.if-text-eq1.false) some (omega arith)
