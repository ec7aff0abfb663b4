use Rattle.avscan.proofs.CheckLemmas.{good_kept}
use Rattle.avscan.proofs.check.check_all.Goals as goal

pub returns-clause-good : goal.returns-clause-good
returns-clause-good g c = λ done. good_kept _ _ _ _ _ (c.check_each-worst.ensures.good done) c.flush.ensures.bytes
