use Rattle.std.proofs.Common.{◌<◌, ◌^◌, Result, Ok, Err, OnOk, map, rules, arith}
use Rattle.std.specs.Io.KnownBytes.{Appends}
use Rattle.av_base.proofs.DeviceLemmas.{prefix_before, writes_after, writes_failed}
use Rattle.av_base.specs.Device.{AppendsPrefix}
use Rattle.av_base.specs.Part.{spelt}
use Rattle.av_sigset.proofs.SpellingLemmas.{reads_back}
use Rattle.av_sigset.specs.Spelling.{format_for, head_text, line_text}
use Rattle.av_sigset.proofs.spelling.write_signatures.Goals as goal

-- what holds after a success gives what is to hold there
on_ok : {A E : Type 0} {P Q : Type 0} (r : Result A E) → (P → Q) → OnOk r P → OnOk r Q
on_ok (Ok x) f p = f p
on_ok (Err e) f p = tt

pub returns-in_err-write_head-clause-writes : goal.returns-in_err-write_head-clause-writes
returns-in_err-write_head-clause-writes g c =
    let wrote : AppendsPrefix (g.W.Write.contents c.args.writer.now) (g.W.Write.contents c.write_head.new.writer) (head_text (format_for c.args.signatures.now) c.args.version) =
    search rules in
    let all = prefix_before _ _ _ (spelt (map line_text c.args.signatures.now)) wrote in
    writes_failed _ _ _ _ c.from_residual.ensures.0 all

pub returns-clause-writes : goal.returns-clause-writes
returns-clause-writes g c =
    let head : Appends (g.W.Write.contents c.args.writer.now) (g.W.Write.contents c.write_head.new.writer) (head_text (format_for c.args.signatures.now) c.args.version) =
    search rules in
    writes_after c.write_lines.result _ _ _ _ _ head c.write_lines.ensures.writes

pub returns-clause-reads_back : goal.returns-clause-reads_back
returns-clause-reads_back g c =
    let small : c.get.result < 2 ^ 64 = c.get.type_inv in
    let version : c.args.version < 2 ^ 64 = omega (arith, c.get.ensures) in
    on_ok c.write_lines.result (λ bytes. reads_back (record { version = c.args.version; signatures = c.args.signatures.now }) version bytes) c.write_lines.ensures.bytes
