use Rattle.std.proofs.Common.{rules, arith, ◌≡◌, ◌+◌, ◌++◌, ap, sym, ◌∙◌}
use Rattle.std.specs.Option.{option_to_list}
use Rattle.av_base.specs.Line.{lines_of}
use Rattle.av_script.specs.Script.{commands_from, with_front}
use Rattle.av_script.specs.Script.Statement.{meaning, command_of}
use Rattle.av_script.proofs.ScriptLemmas.{all_read, line_passed}
use Rattle.av_script.proofs.script.read_commands.Goals as goal

pub lines-preserved : goal.lines-preserved
lines-preserved c =
    let items : c.push_command.new.commands.items ≡ c.lines.commands.items ++ option_to_list (command_of (meaning c.in-Some.statement)) = search rules in
    let passed = line_passed c.lines.commands.items c.lines.line c.first_line.result.0.now (lines_of c.first_line.result.1.now) (meaning c.in-Some.statement) c.in-Some.ensures
    (sym c.is_setting.ensures ∙ c.if-is_setting.false) in (
      ap (λ xs. with_front xs (commands_from (c.lines.line + 1) (lines_of c.first_line.result.1.now))) items
          ∙ passed ∙ ap (λ ls. with_front c.lines.commands.items (commands_from c.lines.line ls)) (sym c.first_line.ensures.lines) ∙ c.lines.invariant.0,
      omega (arith, c.lines.invariant.1, c.first_line.ensures.shorter),
    )

pub returns : goal.returns
returns c = all_read c.lines.commands.items c.lines.line c.lines.rest.now _ (sym c.is_empty.ensures ∙ c.lines-test.false) c.lines.invariant.0
