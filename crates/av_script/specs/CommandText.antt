-- The lines that the commands of a script print.
use Rattle.std.specs.Prelude.{ℕ, List, [], ◌∷◌, ◌++◌, Result, Ok, Err, codes}
use Rattle.av_history.specs.declared.fault.JudgeFault.{JudgeFault}
use Rattle.av_history.specs.declared.fault.StepFault.{StepFault}
use Rattle.av_history.specs.declared.report.Judged.{Judged}
use Rattle.av_history.specs.declared.report.Report.{Report}
use Rattle.av_script.specs.declared.command.Command.{Command}
use Rattle.av_script.specs.declared.command.Command.TheVariants.{Step, Judge}
use Rattle.av_world.specs.Judge.{judged_of}
use Rattle.av_script.specs.Script.{ScriptText}
use Rattle.av_output.specs.Text.Lines.{judged_text}
use Rattle.av_history.specs.Refusals.{judge_word_of, refused_text, word_of}
use Rattle.av_history.specs.World.{WorldState, after, start, step_of}
use Rattle.av_output.specs.Text.{report_text}

-- what a step prints: its report over the next world, or why it is refused
abbrev pub step_text : Result (Report × WorldState) StepFault → List ℕ
step_text (Ok p) = report_text p.1 p.0
step_text (Err f) = refused_text (word_of f)

-- the line of a judge command
abbrev pub judge_text : Result Judged JudgeFault → List ℕ
judge_text (Ok j) = judged_text j
judge_text (Err f) = refused_text (judge_word_of f)

-- what a command prints, and the world after it
abbrev pub command_text : WorldState → Command → List ℕ
command_text w (Step e) = step_text (step_of w e)
command_text w (Judge name) = judge_text (judged_of w name)

-- the world after a command
abbrev pub command_world : WorldState → Command → WorldState
command_world w (Step e) = after w e
command_world w (Judge name) = w

-- what commands print in turn
abbrev pub commands_text : WorldState → List Command → List ℕ
commands_text w [] = []
commands_text w (c ∷ cs) = command_text w c ++ commands_text (command_world w c) cs

-- the line of the volume: it was mounted once
abbrev pub boot_text : List ℕ
boot_text = codes "boot 1\n"

-- what a script prints: the line of its volume, and then those of its commands
abbrev pub script_text : ScriptText → List ℕ
script_text s = boot_text ++ commands_text (start s.number s.mode s.limits) s.commands
