use Rattle.std.proofs.Common.{rules, add-one, sym, subst, map, drop, suc, get_or}
use Rattle.std.proofs.KnownBytes.{Appends-trans}
use Rattle.std.specs.Io.KnownBytes.{Appends}
use Rattle.hex.specs.Hex.{IsBytes}
use Rattle.av_base.proofs.DeviceLemmas.{prefix_after, prefix_before}
use Rattle.av_base.proofs.PartLemmas.{spelt_around, spelt_next}
use Rattle.av_base.specs.Device.{AppendsPrefix}
use Rattle.av_base.specs.Part.{spelt}
use Rattle.av_sigset.proofs.SpellingLemmas.{all_take}
use Rattle.av_sigset.specs.Spelling.{line_text}
use Rattle.av_sigset.specs.declared.signature.Signature.{Signature}
use Rattle.av_sigset.proofs.spelling.write_lines.Goals as goal

pub loop-signature-preserved : goal.loop-signature-preserved
loop-signature-preserved g c =
    let d = c.signature-item.result in
    let wrote : Appends (g.W.Write.contents c.loop-signature.writer) (g.W.Write.contents c.write_line.new.writer) (line_text (get_or c.args.signatures.now c.loop-signature.signature-index d)) =
    search rules in
    let bytes : (λ (s : Signature). IsBytes s.pattern.bytes) (get_or c.args.signatures.now c.loop-signature.signature-index d) = search rules in
    rw add-one (
      subst (Appends (g.W.Write.contents c.args.writer.now) (g.W.Write.contents c.write_line.new.writer))
          (sym (spelt_next line_text c.args.signatures.now c.loop-signature.signature-index d c.loop-signature-test.true))
          (Appends-trans _ _ _ _ _ c.loop-signature.invariant.0 wrote),
      all_take (λ (s : Signature). IsBytes s.pattern.bytes) c.args.signatures.now c.loop-signature.signature-index d c.loop-signature-test.true c.loop-signature.invariant.1 bytes,
    )

pub returns-then-is_err-clause-writes : goal.returns-then-is_err-clause-writes
returns-then-is_err-clause-writes g c =
    let d = c.signature-item.result in
    let wrote : AppendsPrefix (g.W.Write.contents c.loop-signature.writer) (g.W.Write.contents c.write_line.new.writer) (line_text (get_or c.args.signatures.now c.loop-signature.signature-index d)) =
    search rules in
    subst (AppendsPrefix (g.W.Write.contents c.args.writer.now) (g.W.Write.contents c.write_line.new.writer))
    (spelt_around line_text c.args.signatures.now c.loop-signature.signature-index d c.loop-signature-test.true)
    (prefix_after _ _ _ _ _ c.loop-signature.invariant.0 (prefix_before _ _ _ (spelt (map line_text (drop (suc c.loop-signature.signature-index) c.args.signatures.now))) wrote))
