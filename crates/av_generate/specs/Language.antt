-- What is written is a script.
use Rattle.std.specs.Prelude.{ℕ, ◌≡◌, ◌<◌, ◌^◌, List, Some}
use Rattle.av_base.specs.declared.limits.LimitField.{LimitField}
use Rattle.av_base.specs.declared.mode.Mode.{Mode}
use Rattle.av_script.specs.Script.Grammar.{Limit, Volume, Says, line_of}
use Rattle.av_history.specs.World.{WorldState}
use Rattle.av_script.specs.declared.command.Command.{Command}
use Rattle.av_generate.specs.Course.{next_words}
use Rattle.av_generate.specs.Head.{limit_words, volume_words}
use Rattle.av_generate.specs.declared.generator.Generator.{Generator}

-- a line that says a command
abbrev pub IsCommandLine : List ℕ → Type 0
IsCommandLine text = (c : Command) × (line_of text ≡ Some (Says c))

-- whatever was drawn and happened so far, the words of the next command are a command of the language
abbrev pub EachCommandIsOfTheLanguage : Type 0
EachCommandIsOfTheLanguage = (g : Generator) (w : WorldState) → IsCommandLine (next_words g w).0

-- a limit line sets its field to what was drawn, and the volume line is that of volume 1 in its mode
abbrev pub EachSettingIsOfTheLanguage : Type 0
EachSettingIsOfTheLanguage =
    ((which : LimitField) (value : ℕ) → value < 2 ^ 64 → line_of (limit_words which value) ≡ Some (Limit which value))
    × ((mode : Mode) → line_of (volume_words mode) ≡ Some (Volume 1 mode))
