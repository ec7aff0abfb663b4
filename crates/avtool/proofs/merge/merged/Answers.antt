use Rattle.std.proofs.Common.{subst, sym}
use Rattle.avtool.proofs.MergeLemmas.{none_yet, one_more}
use Rattle.avtool.specs.Merge.{IsMergeOfFiles}
use Rattle.avtool.proofs.merge.merged.Goals as goal

pub files-init : goal.files-init
files-init g c = subst (IsMergeOfFiles c.args.trust 0) (sym c.new-merger.ensures) (none_yet c.args.trust)

pub files-preserved : goal.files-preserved
files-preserved g c =
    one_more c.args.trust c.files.place c.files.merger c.add.new.self c.in_ok-set.set c.files.invariant c.in-Ok.ensures.merges c.in_ok-set.ensures.trusted
    c.in_ok-set.ensures.some c.in_ok-set.ensures.stand
