use Rattle.std.proofs.Common.{Ok, Err, IfOk}
use Rattle.av_match.specs.Passed.{ArePassed}
use Rattle.av_match.proofs.PassedLemmas.{passed_on}
use Rattle.av_match.proofs.leaps.leaped.Goals as goal

pub returns-clause-passed : goal.returns-clause-passed
returns-clause-passed c =
    let t = c.args.tables.now in
    let w = c.args.piece.now in
    let first = c.in_ok-by_byte.by_byte in
    let second = c.in_ok-by_pair.by_pair in
    let so_far = passed_on t w 0 first second c.in_ok-by_byte.ensures.passed c.in_ok-by_pair.ensures.passed in
    (elim c.leaped_by-4.result as (λ r. IfOk r (ArePassed t w second) → IfOk r (ArePassed t w 0)) [
      | Ok far ↦ λ last. passed_on t w 0 second far so_far last
      | Err stop ↦ λ last. last
    ]) c.leaped_by-4.ensures.passed
