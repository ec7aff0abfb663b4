-- What the lines of a script did, in their order.
use Rattle.std.specs.Prelude.{ℕ, ◌+◌, List, [], ◌∷◌, ◌++◌, length, Option, None, Some, Result}
use Rattle.av_history.specs.declared.event.Event.{Event}
use Rattle.av_history.specs.declared.fault.JudgeFault.{JudgeFault}
use Rattle.av_history.specs.declared.fault.StepFault.{StepFault}
use Rattle.av_history.specs.declared.report.Judged.{Judged}
use Rattle.av_history.specs.declared.report.Report.{Report}
use Rattle.av_script.specs.declared.command.Command.{Command}
use Rattle.av_script.specs.declared.command.Command.TheVariants.{Step, Judge}
use Rattle.av_world.specs.Judge.{judged_of}
use Rattle.av_script.specs.CommandObjects.{said_world}
use Rattle.av_script.specs.Script.Grammar.{Line, Silent, Limit, Volume, Says, line_of}
use Rattle.av_history.specs.World.{WorldState, step_of}
use Rattle.av_chart.specs.declared.happened.Span.{Span}
use Rattle.av_chart.specs.declared.happening.Row.{Row}

-- what a line did: it mounted the filter, or its command was run, and gave its report over the next world, or why not
pub data Did : Type 0 where
  Mounted : Did
  Judges : Result Judged JudgeFault → Did
  Steps : Event → Result (Report × WorldState) StepFault → Did

-- a line that did something: its number, the places of its text in the script, and its text
pub record Told : Type 0 where
  pub line : ℕ
  pub command : Span
  pub text : List ℕ
  pub did : Did

-- the line of this number, whose text begins at this place
abbrev pub told_at : ℕ → ℕ → List ℕ → Did → Told
told_at number from text did =
    record { line = number; command = record { from = from; to = from + length text }; text = text; did = did }

-- the same of a row
abbrev pub told_of : Row → Did → Told
told_of row did = record { line = row.line; command = row.command; text = row.text.now; did = did }

-- what a command does in a world
abbrev pub did_of : WorldState → Command → Did
did_of w (Step e) = Steps e (step_of w e)
did_of w (Judge name) = Judges (judged_of w name)

-- what a line says does something, or nothing
abbrev pub tells : WorldState → (Did → Told) → Option Line → List Told
tells w told None = []
tells w told (Some Silent) = []
tells w told (Some (Limit which value)) = []
tells w told (Some (Volume number mode)) = told Mounted ∷ []
tells w told (Some (Says command)) = told (did_of w command) ∷ []

-- what lines did in turn, the first of which has this number, and begins at this place
abbrev pub told_from : WorldState → ℕ → ℕ → List (List ℕ) → List Told
told_from w number from [] = []
told_from w number from (l ∷ ls) =
    tells w (told_at number from l) (line_of l) ++ told_from (said_world w (line_of l)) (number + 1) (from + length l + 1) ls

-- the world after lines
abbrev pub world_after : WorldState → List (List ℕ) → WorldState
world_after w [] = w
world_after w (l ∷ ls) = world_after (said_world w (line_of l)) ls
