use Rattle.std.proofs.Common.{subst}
use Rattle.av_match.specs.Scanning.{AreSolid}
use Rattle.av_sigset.specs.Set.{patterns_of}
use Rattle.av_segments.proofs.SegmentLemmas.{across_is}
use Rattle.av_segments.proofs.across.across.Goals as goal

pub returns : goal.returns
returns c = λ a b free seam clean is.
    let solid = subst (λ set. AreSolid (patterns_of set.signatures)) c.set.ensures c.version-version.ensures.set.ranges.lengths in
    across_is (patterns_of c.args.scanner.now.signatures) a b c.args.seam.now c.as_slice.result.now c.judge-at_cut.result c.args.after c.moved_on.result c.moved_on-2.result c.least_of.result solid
    free seam clean is c.judge-at_cut.ensures c.as_slice.ensures.value c.moved_on.ensures c.moved_on-2.ensures c.least_of.ensures
