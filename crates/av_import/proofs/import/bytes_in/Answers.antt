use Rattle.std.proofs.Common.{arith, add-one, ap, subst, length}
use Rattle.av_sigset.proofs.SpellingLemmas.{all_take}
use Rattle.av_sigset.specs.Set.{HasRightLength, IsSpan}
use Rattle.av_sigset.specs.declared.signature.Signature.{Signature}
use Rattle.av_import.proofs.ImportLemmas.{next_bytes}
use Rattle.av_import.proofs.import.bytes_in.Goals as goal

pub loop-signature-preserved : goal.loop-signature-preserved
loop-signature-preserved c =
    let d = c.signature-item.result in
    let fit : (λ (s : Signature). HasRightLength s.pattern × IsSpan s.pattern.span) d = ((omega arith, omega arith), (omega arith, omega arith)) in
    let here = subst (λ (s : Signature). HasRightLength s.pattern × IsSpan s.pattern.span) c.signature-item.is fit in
    let same = ap (λ (s : Signature). length s.pattern.bytes) c.signature-item.is in
    let bytes = next_bytes c.args.given.now c.loop-signature.signature-index d c.loop-signature-test.true in
    rw add-one (
      all_take (λ (s : Signature). HasRightLength s.pattern × IsSpan s.pattern.span) c.args.given.now c.loop-signature.signature-index d c.loop-signature-test.true c.loop-signature.invariant.0 here,
      omega (arith, bytes, same, c.loop-signature.invariant.1),
      omega arith,
    )
