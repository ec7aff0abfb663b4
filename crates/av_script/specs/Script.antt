-- A script as its lines say it, or its first bad line.
pub mod Grammar
pub mod Statement
pub mod Words
use Rattle.std.specs.Prelude.{ℕ, ◌≡◌, ◌+◌, ◌++◌, List, [], ◌∷◌, Option, None, Some, Result, Ok, Err}
use Rattle.std.specs.declared.collections.VecDeque.{VecDeque}
use Rattle.std.specs.declared.alloc.Global.{Global}
use Rattle.av_base.specs.declared.refusal.Refusal.{Refusal}
use Rattle.av_base.specs.Line.{lines_of}
use Rattle.av_base.specs.Limits.{checked, greatest_values, with_field}
use Rattle.av_base.specs.declared.limits.LimitValues.{LimitValues}
use Rattle.av_base.specs.declared.limits.LimitFault.{LimitFault}
use Rattle.av_base.specs.declared.mode.Mode.{Mode}
use Rattle.av_script.specs.declared.command.Command.{Command}
use Rattle.av_script.specs.declared.script.ScriptFault.{ScriptFault}
use Rattle.av_script.specs.Script.Grammar.{Line, Silent, Limit, Volume, Says, line_of}
use Rattle.av_base.specs.Refused.{IsRefusal, map_ok}

-- a volume with its mode and limits, and the commands in their order
pub record ScriptText : Type 0 where
  pub number : ℕ
  pub mode : Mode
  pub limits : LimitValues
  pub commands : List Command

-- the fault of this line
abbrev pub bad_at : {A : Type 0} → ℕ → Result A ScriptFault
bad_at n = Err (record { line = n })

-- a command in front of those of the lines below
abbrev pub command_then : Command → Result (List Command) ScriptFault → Result (List Command) ScriptFault
command_then c below = map_ok (λ cs. c ∷ cs) below

-- below the volume line, a line says nothing or a command
abbrev pub line_then : ℕ → Option Line → Result (List Command) ScriptFault → Result (List Command) ScriptFault
line_then n None below = bad_at n
line_then n (Some Silent) below = below
line_then n (Some (Limit which value)) below = bad_at n
line_then n (Some (Volume number mode)) below = bad_at n
line_then n (Some (Says command)) below = command_then command below

-- the commands of the lines below the volume line, the first of which has the number n
abbrev pub commands_from : ℕ → List (List ℕ) → Result (List Command) ScriptFault
commands_from n [] = Ok []
commands_from n (l ∷ ls) = line_then n (line_of l) (commands_from (n + 1) ls)

-- the script of these settings and commands
abbrev pub heads : ℕ → Mode → LimitValues → Result (List Command) ScriptFault → Result ScriptText ScriptFault
heads number mode limits commands =
    map_ok (λ cs. record { number = number; mode = mode; limits = limits; commands = cs }) commands

-- the limits are judged at the volume line
abbrev pub mounted_with : ℕ → ℕ → Mode → Result LimitValues LimitFault → List (List ℕ) → Result ScriptText ScriptFault
mounted_with n number mode (Ok limits) ls = heads number mode limits (commands_from (n + 1) ls)
mounted_with n number mode (Err f) ls = bad_at n

-- The lines up to the volume line set limits, where a later one for the same field counts; the first of them has the number
-- n. A text that ends before its volume line is bad at the line after its last.
abbrev pub header_from : LimitValues → ℕ → List (List ℕ) → Result ScriptText ScriptFault
header_from values n [] = bad_at n
header_from values n (l ∷ ls) = elim (line_of l) [
  | None ↦ bad_at n
  | Some Silent ↦ header_from values (n + 1) ls
  | Some (Limit which value) ↦ header_from (with_field which value values) (n + 1) ls
  | Some (Volume number mode) ↦ mounted_with n number mode (checked values) ls
  | Some (Says command) ↦ bad_at n
]

-- the script of a text
abbrev pub script_of : List ℕ → Result ScriptText ScriptFault
script_of text = header_from greatest_values 1 (lines_of text)

-- the commands were read, or the fault is that of the first bad line
abbrev pub Parses : Result (VecDeque Command Global) (Refusal ScriptFault) → Result (List Command) ScriptFault → Type 0
Parses (Ok v) wanted = wanted ≡ Ok v.items
Parses (Err e) wanted = IsRefusal e wanted

-- commands in front of those that follow
abbrev pub with_front : List Command → Result (List Command) ScriptFault → Result (List Command) ScriptFault
with_front front commands = map_ok (λ cs. front ++ cs) commands
