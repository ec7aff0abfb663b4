use Rattle.std.proofs.Common.{rules}
use Rattle.av_files.proofs.SeveralLemmas.{all_begun}
use Rattle.av_files.proofs.scanners.started.Goals as goal

pub returns : goal.returns
returns c = all_begun _ _ _ _ (search rules) c.scanners.invariant
