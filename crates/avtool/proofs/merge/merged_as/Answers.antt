use Rattle.std.proofs.Common.{ap, length, subst, sym}
use Rattle.av_program.proofs.SetLemmas.{trust_for}
use Rattle.av_program.specs.Sets.{IsTrustFor}
use Rattle.avtool.proofs.MergeLemmas.{asked_by}
use Rattle.avtool.proofs.merge.merged_as.Goals as goal

pub returns-clause-merge : goal.returns-clause-merge
returns-clause-merge g c =
    let asked = c.args.asked.now in
    let by =
    subst (IsTrustFor asked.trust) (sym c.by-trust.ensures)
    (trust_for asked.trust c.in_ok-key.key c.as_ref.result c.in_ok-key.ensures.none c.in_ok-key.ensures.some c.as_ref.ensures.variant) in
    asked_by asked c.by-trust.result (length c.as_slice.result.now) c.merged.result by (ap length c.as_slice.ensures.value) c.merged.ensures.merge
