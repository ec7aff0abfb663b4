use Rattle.std.proofs.Common.{◌*◌, ◌-◌, ◌/◌, length, Ok, Err, IfOk}
use Rattle.av_match.specs.Passed.{ArePassed}
use Rattle.av_match.proofs.PassedLemmas.{passed_on}
use Rattle.av_match.proofs.skim.passed.Goals as goal

pub returns-clause-passed : goal.returns-clause-passed
returns-clause-passed c =
    let t = c.args.tables.now in
    let w = c.args.piece.now in
    let step = (length w - t.window) / 6 in
    let at = c.in_ok-at.at in
    let six = c.in_ok-at.ensures.passed in
    let two = passed_on t w 0 step (2 * step) (passed_on t w 0 at.a step six.a c.in_ok-moved_to.ensures.passed) (passed_on t w step at.b (2 * step) six.b c.in_ok-moved_to-2.ensures.passed) in
    let three = passed_on t w 0 (2 * step) (3 * step) two (passed_on t w (2 * step) at.c (3 * step) six.c c.in_ok-moved_to-3.ensures.passed) in
    let four = passed_on t w 0 (3 * step) (4 * step) three (passed_on t w (3 * step) at.d (4 * step) six.d c.in_ok-moved_to-4.ensures.passed) in
    let five = passed_on t w 0 (4 * step) (5 * step) four (passed_on t w (4 * step) at.e (5 * step) six.e c.in_ok-moved_to-5.ensures.passed) in
    (elim c.moved-2.result as (λ r. IfOk r (ArePassed t w at.f) → IfOk r (ArePassed t w 0)) [
      | Ok place ↦ λ last. passed_on t w 0 (5 * step) place five (passed_on t w (5 * step) at.f place six.f last)
      | Err stop ↦ λ last. last
    ]) c.moved-2.ensures.passed
