use Rattle.std.proofs.Common.{◌≡◌, ◌++◌, ap, sym, ◌∙◌, subst, append_assoc}
use Rattle.std.proofs.KnownBytes.{Appends-trans}
use Rattle.av_base.proofs.DeviceLemmas.{prefix_after, prefix_before, writes_failed}
use Rattle.av_base.specs.Device.{AppendsPrefix}
use Rattle.av_script.specs.CommandText.{command_text, command_world, commands_text}
use Rattle.av_script.proofs.run_script.run_commands.Goals as goal

pub commands-preserved : goal.commands-preserved
commands-preserved g c =
    let done = c.commands.invariant.0 in
    let line = command_text c.commands.world c.in-Some.command in (
      done ++ line,
      Appends-trans _ _ _ done line c.commands.invariant.1 c.in_ok-run_command.ensures.writes,
      append_assoc done line (commands_text c.run_command.new.world c.pop_front.new.self.items)
          ∙ ap (λ w. done ++ (line ++ commands_text w c.pop_front.new.self.items)) c.in_ok-run_command.ensures.world
          ∙ ap (λ cs. done ++ commands_text c.commands.world cs) (sym c.in-Some.ensures.items)
          ∙ c.commands.invariant.2,
    )

pub returns-in_err-run_command-clause-writes : goal.returns-in_err-run_command-clause-writes
returns-in_err-run_command-clause-writes g c =
    let done = c.commands.invariant.0 in
    let line = command_text c.commands.world c.in-Some.command in
    let rest = commands_text (command_world c.commands.world c.in-Some.command) c.pop_front.new.self.items in
    let whole : done ++ (line ++ rest) ≡ commands_text c.args.world.now c.args.commands.items =
    ap (λ cs. done ++ commands_text c.commands.world cs) (sym c.in-Some.ensures.items) ∙ c.commands.invariant.2 in
    writes_failed _ _ _ _ c.from_residual.ensures.0
    (subst (AppendsPrefix (g.W.Write.contents c.args.writer.now) (g.W.Write.contents c.run_command.new.writer)) whole
    (prefix_after _ _ _ done (line ++ rest) c.commands.invariant.1 (prefix_before _ _ line rest c.in_err-run_command.ensures.writes)))
