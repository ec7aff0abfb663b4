use Rattle.std.proofs.Common.{subst, sym}
use Rattle.av_program.proofs.SetLemmas.{trust_for}
use Rattle.av_program.specs.Sets.{IsTrustFor}
use Rattle.avtool.proofs.TrustLemmas.{signed_by}
use Rattle.avtool.proofs.sign.signed_as.Goals as goal

pub returns-clause-signed : goal.returns-clause-signed
returns-clause-signed g c =
    let asked = c.args.asked in
    let by =
    subst (IsTrustFor asked.trust) (sym c.by-trust.ensures)
    (trust_for asked.trust c.in_ok-old.old c.as_ref.result c.in_ok-old.ensures.none c.in_ok-old.ensures.some c.as_ref.ensures.variant) in
    signed_by (λ file. file.items) asked c.by-trust.result c.in_ok-text.text.now c.signed_set.result by c.in_ok-text.ensures.text c.signed_set.ensures.signed
