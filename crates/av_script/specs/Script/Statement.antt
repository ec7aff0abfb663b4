-- The views that code reads of a line, and what they say.
use Rattle.std.specs.Prelude.{ℕ, List, ◌≡◌, Bool, true, false, Option, None, Some, map}
use Rattle.std.specs.Option.{option_copied}
use Rattle.av_base.specs.Line.{rest_of}
use Rattle.av_script.specs.declared.statement.Statement.{Statement}
use Rattle.av_script.specs.declared.statement.Statement.TheVariants as statement
use Rattle.av_script.specs.declared.verb.NameVerb.{NameVerb}
use Rattle.av_script.specs.declared.verb.NameVerb.TheVariants as name_verb
use Rattle.av_script.specs.declared.verb.NumberVerb.{NumberVerb}
use Rattle.av_script.specs.declared.verb.NumberVerb.TheVariants as number_verb
use Rattle.av_script.specs.declared.verb.BareVerb.{BareVerb}
use Rattle.av_script.specs.declared.verb.BareVerb.TheVariants as bare_verb
use Rattle.av_history.specs.declared.event.Event.{Event}
use Rattle.av_history.specs.declared.event.Event.TheVariants.{Publish, Create, Write, Cut, Remove, Open, Cleanup, Down, Up, Run, Timeout, Connect, DisconnectFilter, DisconnectService, RestartFilter, RestartService}
use Rattle.av_script.specs.declared.command.Command.{Command}
use Rattle.av_script.specs.declared.command.Command.TheVariants.{Step, Judge}
use Rattle.av_script.specs.Script.Grammar.{Line, Silent, Limit, Volume, Says, content_in, pattern_in}

-- the command of a verb and a name
abbrev pub named_command : NameVerb → List ℕ → Command
named_command name_verb.Create name = Step (Create name)
named_command name_verb.Remove name = Step (Remove name)
named_command name_verb.Cleanup name = Step (Cleanup name)
named_command name_verb.Judge name = Judge name

-- the event of a verb and a number
abbrev pub numbered_event : NumberVerb → ℕ → Event
numbered_event number_verb.Down place = Down place
numbered_event number_verb.Up place = Up place
numbered_event number_verb.Work place = Run place
numbered_event number_verb.Timeout seq = Timeout seq

-- the command of a verb with a number
abbrev pub numbered_step : NumberVerb → ℕ → Command
numbered_step verb number = Step (numbered_event verb number)

-- the event of a verb alone, or with its side and port
abbrev pub bare_event : BareVerb → Event
bare_event (bare_verb.Connect port) = Connect port
bare_event (bare_verb.DisconnectFilter port) = DisconnectFilter port
bare_event (bare_verb.DisconnectService port) = DisconnectService port
bare_event bare_verb.RestartFilter = RestartFilter
bare_event (bare_verb.RestartService port) = RestartService port

-- the command of such a verb
abbrev pub bare_step : BareVerb → Command
bare_step verb = Step (bare_event verb)

-- what a statement says, with its views read
abbrev pub meaning : Statement → Line
meaning statement.Silent = Silent
meaning (statement.Limit which value) = Limit which value
meaning (statement.Volume number mode) = Volume number mode
meaning (statement.Publish version patterns) =
    Says (Step (Publish version (map pattern_in (rest_of 32 (option_copied patterns)))))
meaning (statement.Write name offset content) = Says (Step (Write name.now offset (content_in content.now)))
meaning (statement.Cut name length) = Says (Step (Cut name.now length))
meaning (statement.Open name least) = Says (Step (Open name.now least))
meaning (statement.Named verb name) = Says (named_command verb name.now)
meaning (statement.Numbered verb number) = Says (numbered_step verb number)
meaning (statement.Bare verb) = Says (bare_step verb)

-- a statement was read where there is a line, and says what it does
abbrev pub Reads : Option Statement → Option Line → Type 0
Reads None line = line ≡ None
Reads (Some s) line = line ≡ Some (meaning s)

-- the command of a line, where it says one
abbrev pub command_of : Line → Option Command
command_of Silent = None
command_of (Limit which value) = None
command_of (Volume number mode) = None
command_of (Says command) = Some command

-- the command of a line, if it has one
abbrev pub Commands : Line → Option Command → Type 0
Commands line command = command ≡ command_of line

-- whether a line sets a limit or the volume
abbrev pub is_setting : Line → Bool
is_setting Silent = false
is_setting (Limit which value) = true
is_setting (Volume number mode) = true
is_setting (Says command) = false

-- whether a line does something
abbrev pub is_told : Line → Bool
is_told Silent = false
is_told (Limit which value) = false
is_told (Volume number mode) = true
is_told (Says command) = true
