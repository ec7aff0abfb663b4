-- What the commands of a script print as JSON: an object each.
use Rattle.std.specs.Prelude.{ℕ, ◌+◌, List, [], ◌∷◌, ◌++◌, Option, None, Some, Result, Ok, Err, codes, if◌then◌else◌}
use Rattle.json.specs.Token.{Token, begin_object, end_object, begin_array, end_array, key}
use Rattle.av_base.specs.Line.{lines_of}
use Rattle.av_json.specs.Line.{object_line}
use Rattle.av_json.specs.Member.{named_tokens, number_tokens, text_tokens}
use Rattle.av_history.specs.declared.fault.JudgeFault.{JudgeFault}
use Rattle.av_history.specs.declared.fault.StepFault.{StepFault}
use Rattle.av_history.specs.declared.report.Judged.{Judged}
use Rattle.av_history.specs.declared.report.Line.TheVariants.{Booted}
use Rattle.av_history.specs.declared.report.Report.{Report}
use Rattle.av_script.specs.declared.command.Command.{Command}
use Rattle.av_script.specs.declared.command.Command.TheVariants.{Step, Judge}
use Rattle.av_world.specs.Judge.{judged_of}
use Rattle.av_output.specs.Objects.Lines.{judged_tokens, line_tokens}
use Rattle.av_script.specs.Script.{ScriptText}
use Rattle.av_script.specs.Script.Grammar.{Line, Silent, Limit, Volume, Says, line_of}
use Rattle.av_script.specs.Script.Statement.{is_told}
use Rattle.av_script.specs.CommandText.{command_world}
use Rattle.av_history.specs.Refusals.{judge_word_of, word_of}
use Rattle.av_history.specs.World.{WorldState, start, step_of}
use Rattle.av_output.specs.Objects.{report_tokens}

-- the member of what was done
abbrev pub did : List Token → List Token
did objects = key (codes "did") ∷ begin_array ∷ (objects ++ end_array ∷ [])

-- and of why it was refused
abbrev pub refused : List ℕ → List Token
refused word = text_tokens (codes "refused") word

-- what a step did: its report over the next world, or why it is refused
abbrev pub step_tokens : Result (Report × WorldState) StepFault → List Token
step_tokens (Ok p) = did (report_tokens p.1 p.0)
step_tokens (Err f) = refused (word_of f)

-- what a judge command did
abbrev pub judge_tokens : Result Judged JudgeFault → List Token
judge_tokens (Ok j) = did (judged_tokens j)
judge_tokens (Err f) = refused (judge_word_of f)

-- what a command did
abbrev pub command_tokens : WorldState → Command → List Token
command_tokens w (Step e) = step_tokens (step_of w e)
command_tokens w (Judge name) = judge_tokens (judged_of w name)

-- the object of a command: the number of its line, its text, and what it did
abbrev pub line_object : ℕ → List ℕ → List Token → List Token
line_object n text what =
    begin_object
    ∷ (number_tokens (codes "line") n ++ (named_tokens (codes "command") (codes "command_hex") text ++ (what ++ end_object ∷ [])))

-- what a line of a script did, as the members behind its text
abbrev pub told_by : WorldState → Line → List Token
told_by w Silent = []
told_by w (Limit which value) = []
told_by w (Volume number mode) = did (line_tokens (Booted 1))
told_by w (Says command) = command_tokens w command

-- a line that sets a limit or says nothing has no object
abbrev pub said_tokens : WorldState → Option Line → Option (List Token)
said_tokens w None = None
said_tokens w (Some line) = if is_told line then Some (told_by w line) else None

-- the world after a line
abbrev pub said_world : WorldState → Option Line → WorldState
said_world w None = w
said_world w (Some Silent) = w
said_world w (Some (Limit which value)) = w
said_world w (Some (Volume number mode)) = w
said_world w (Some (Says command)) = command_world w command

-- the object of a line, and the end of its line
abbrev pub said_json : ℕ → List ℕ → Option (List Token) → List ℕ
said_json n text None = []
said_json n text (Some what) = object_line (line_object n text what)

-- the objects of lines in turn, the first of which has the number n
abbrev pub lines_json : WorldState → ℕ → List (List ℕ) → List ℕ
lines_json w n [] = []
lines_json w n (l ∷ ls) = said_json n l (said_tokens w (line_of l)) ++ lines_json (said_world w (line_of l)) (n + 1) ls

-- what a script prints as JSON: an object for its volume line, and for each of its commands
abbrev pub script_json : List ℕ → ScriptText → List ℕ
script_json text s = lines_json (start s.number s.mode s.limits) 1 (lines_of text)
