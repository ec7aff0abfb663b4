use Rattle.std.proofs.Common.{refl, arith, length-set, ◌∙◌}
use Rattle.av_trust.proofs.BitLemmas.{masked_all, masked_more}
use Rattle.av_trust.proofs.mac.masked.Goals as goal

pub bytes-preserved : goal.bytes-preserved
bytes-preserved c =
    let inv = c.bytes.invariant in (
      length-set _ _ _ ∙ inv.0,
      masked_more _ _ _ c.bytes.place _ (omega (arith, inv.0, c.bytes-test.true)) (omega (arith, c.bytes-test.true)) refl inv.1,
    )

pub returns : goal.returns
returns c = let inv = c.bytes.invariant in masked_all _ _ _ c.bytes.place (omega (arith, inv.0, c.bytes-test.false)) (omega (arith, c.told-block, c.bytes-test.false)) inv.1
