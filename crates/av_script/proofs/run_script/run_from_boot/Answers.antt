use Rattle.std.proofs.Common.{rules}
use Rattle.std.specs.Io.KnownBytes.{Appends}
use Rattle.av_base.proofs.DeviceLemmas.{prefix_before, writes_after}
use Rattle.av_base.specs.Device.{AppendsPrefix}
use Rattle.av_script.specs.CommandText.{boot_text, commands_text}
use Rattle.av_script.proofs.run_script.run_from_boot.Goals as goal

pub returns-then-is_err-clause-writes : goal.returns-then-is_err-clause-writes
returns-then-is_err-clause-writes g c =
    let wrote : AppendsPrefix (g.W.Write.contents c.args.writer.now) (g.W.Write.contents c.write_text.new.writer) boot_text = search rules in
    prefix_before _ _ boot_text (commands_text c.args.world.now c.args.commands.items) wrote

pub returns-clause-writes : goal.returns-clause-writes
returns-clause-writes g c =
    let boot : Appends (g.W.Write.contents c.args.writer.now) (g.W.Write.contents c.write_text.new.writer) boot_text = search rules in
    writes_after c.run_commands.result _ _ _ boot_text _ boot c.run_commands.ensures.writes
