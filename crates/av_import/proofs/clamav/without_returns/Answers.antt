use Rattle.std.proofs.Common.{arith, ◌∙◌, ◌<◌, ◌≡◌, ◌-◌, length, sym, get_or, nat_eq, false}
use Rattle.std.proofs.lemmas.Bool.Decides.{nat_tests}
use Rattle.av_import.proofs.ClamavLemmas.{one_less, no_less, none_left}
use Rattle.av_import.proofs.clamav.without_returns.Goals as goal

pub returns-preserved : goal.returns-preserved
returns-preserved c =
    let some : 0 < length c.returns.rest.now = grind (arith, nat_tests, c.is_empty.ensures, c.returns-test.true) in
    one_less c.returns.rest.now (length c.returns.rest.now - 1) (omega arith) c.if-rest-eq13.true ∙ c.returns.invariant

pub returns-else-rest-eq13 : goal.returns-else-rest-eq13
returns-else-rest-eq13 c =
    let some : 0 < length c.returns.rest.now = grind (arith, nat_tests, c.is_empty.ensures, c.returns-test.true) in
    let other : nat_eq (get_or c.returns.rest.now (length c.returns.rest.now - 1) 0) 13 ≡ false = grind (arith, nat_tests, c.if-rest-eq13.false) in
    sym (no_less c.returns.rest.now (length c.returns.rest.now - 1) (omega arith) other) ∙ c.returns.invariant

pub returns-after-returns : goal.returns-after-returns
returns-after-returns c =
    let none : length c.returns.rest.now ≡ 0 = grind (arith, nat_tests, c.is_empty.ensures, c.returns-test.false) in
    sym (none_left c.returns.rest.now none) ∙ c.returns.invariant
