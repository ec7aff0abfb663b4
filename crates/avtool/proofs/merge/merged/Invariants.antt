use Rattle.avtool.specs.Merge.{IsMergeOfFiles}
use Rattle.avtool.proofs.merge.merged.Given as goal

-- the sets so far are merged
abbrev pub invariant-files : goal.invariant-files
invariant-files g l = IsMergeOfFiles l.fn.trust l.place l.merger
