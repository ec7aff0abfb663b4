use Rattle.std.proofs.Common.{rules}
use Rattle.av_files.proofs.SeveralLemmas.{none_left}
use Rattle.av_files.proofs.scanners.ended.Goals as goal

pub returns : goal.returns
returns c = λ bytes content are.
    let so = c.scans.invariant bytes content are in
    none_left _ bytes content _ _ _ _ (search rules) so.0 so.1
