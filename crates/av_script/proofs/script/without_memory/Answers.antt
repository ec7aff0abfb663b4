use Rattle.std.proofs.Common.{arith, ◌++◌, ap, sym, ◌∙◌}
use Rattle.std.specs.Option.{option_to_list}
use Rattle.av_base.specs.Line.{lines_of}
use Rattle.av_script.specs.Script.{commands_from, with_front}
use Rattle.av_script.specs.Script.Statement.{meaning, command_of}
use Rattle.av_script.proofs.ScriptLemmas.{line_passed}
use Rattle.av_script.proofs.script.without_memory.Goals as goal

pub lines-preserved : goal.lines-preserved
lines-preserved c =
    let front = c.lines.invariant.0.0 in
    let passed = line_passed front c.lines.line c.first_line.result.0.now (lines_of c.first_line.result.1.now) (meaning c.in-Some.statement) c.in-Some.ensures
    (sym c.is_setting.ensures ∙ c.if-is_setting.false) in (
      (
        front ++ option_to_list (command_of (meaning c.in-Some.statement)),
        passed ∙ ap (λ ls. with_front front (commands_from c.lines.line ls)) (sym c.first_line.ensures.lines) ∙ c.lines.invariant.0.1,
      ),
      omega (arith, c.lines.invariant.1, c.first_line.ensures.shorter),
    )
