use Rattle.std.proofs.Common.{rules}
use Rattle.std.specs.Io.KnownBytes.{Appends}
use Rattle.av_base.proofs.DeviceLemmas.{writes_after}
use Rattle.av_generate.proofs.script.write_whole.Goals as goal

pub returns : goal.returns
returns g c =
    let head : Appends (g.W.Write.contents c.args.writer.now) (g.W.Write.contents c.write_text.new.writer) c.args.text.now = search rules in
    writes_after c.write_lines.result _ _ _ c.args.text.now _ head c.write_lines.ensures
