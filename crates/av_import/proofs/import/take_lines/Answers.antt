use Rattle.std.proofs.Common.{rules, sym, ◌∙◌, arith, ◌≡◌, length}
use Rattle.std.proofs.lemmas.Bool.Decides.{nat_tests}
use Rattle.av_import.proofs.ImportLemmas.{next_line, no_line}
use Rattle.av_import.specs.Import.{after_line}
use Rattle.av_import.proofs.import.take_lines.Goals as goal

pub lines-preserved : goal.lines-preserved
lines-preserved g c =
    let is : c.pass_line.new.import ≡ after_line c.args.form c.lines.import c.first_line.result.0.now = search rules in (
      next_line c.args.form c.lines.import c.pass_line.new.import c.lines.rest.now c.first_line.result.0.now c.first_line.result.1.now c.first_line.ensures.lines is ∙ c.lines.invariant.0,
      omega (arith, c.lines.invariant.1, c.first_line.ensures.shorter),
    )

pub returns : goal.returns
returns g c =
    let none : length c.lines.rest.now ≡ 0 = grind (arith, nat_tests, c.is_empty.ensures, c.lines-test.false) in
    sym (no_line c.args.form c.lines.import c.lines.rest.now none) ∙ c.lines.invariant.0
