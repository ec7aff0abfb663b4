-- What is written for the text of a script.
use Rattle.std.specs.Prelude.{ℕ, ◌≡◌, ◌<◌, ◌≤◌, ◌⊎◌, Bool, length, List, Option, Result, Ok, Err, IfSome}
use Rattle.std.specs.Io.KnownBytes.{Appends, Keeps}
use Rattle.av_base.specs.Device.{AppendsPrefix}
use Rattle.av_base.specs.Recorded.{IsReadFault}
use Rattle.av_script.specs.Script.{ScriptText, script_of}
use Rattle.av_script.specs.CommandObjects.{script_json}
use Rattle.av_script.specs.CommandText.{script_text}
use Rattle.av_script.specs.declared.run_script.TheConstants.{MAX_SCRIPT}
use Rattle.av_script.specs.declared.run_script.RunFault.{RunFault}
use Rattle.av_script.specs.declared.run_script.RunFault.TheVariants.{BadScript, NoMemory, Read, TooLong, Write}
use Rattle.av_script.specs.declared.script.ScriptFault.{ScriptFault}

-- the whole output of a script
abbrev pub PrintsAll : Option (List ℕ) → Option (List ℕ) → Result ScriptText ScriptFault → Type 0
PrintsAll old new (Ok s) = Appends old new (script_text s)
PrintsAll old new (Err f) = ⊥

-- all lines of a script were written
abbrev pub Prints : Option (List ℕ) → Option (List ℕ) → List ℕ → Type 0
Prints old new input = PrintsAll old new (script_of input)

-- a front of it, and nothing for a text that is no script
abbrev pub PrintsSome : Option (List ℕ) → Option (List ℕ) → Result ScriptText ScriptFault → Type 0
PrintsSome old new (Ok s) = AppendsPrefix old new (script_text s)
PrintsSome old new (Err f) = Keeps old new

-- a front of the lines of a script was written
abbrev pub PrintsFront : Option (List ℕ) → Option (List ℕ) → List ℕ → Type 0
PrintsFront old new input = PrintsSome old new (script_of input)

-- the whole output of a script as JSON
abbrev pub PrintsJsonAll : Option (List ℕ) → Option (List ℕ) → List ℕ → Result ScriptText ScriptFault → Type 0
PrintsJsonAll old new input (Ok s) = Appends old new (script_json input s)
PrintsJsonAll old new input (Err f) = ⊥

-- all objects of a script were written
abbrev pub PrintsJson : Option (List ℕ) → Option (List ℕ) → List ℕ → Type 0
PrintsJson old new input = PrintsJsonAll old new input (script_of input)

-- a front of them, and nothing for a text that is no script
abbrev pub PrintsJsonSome : Option (List ℕ) → Option (List ℕ) → List ℕ → Result ScriptText ScriptFault → Type 0
PrintsJsonSome old new input (Ok s) = AppendsPrefix old new (script_json input s)
PrintsJsonSome old new input (Err f) = Keeps old new

-- a front of the objects of a script was written
abbrev pub PrintsJsonFront : Option (List ℕ) → Option (List ℕ) → List ℕ → Type 0
PrintsJsonFront old new input = PrintsJsonSome old new input (script_of input)

-- it holds of a text that a reader gave until it was at its end: all that it had left, as far as that is known, and no longer than a script may be
pub record IsOfRead (left : Option (List ℕ)) (holds : List ℕ → Type 0) : Type 0 where
  pub text : List ℕ
  pub whole : IfSome left (λ all. text ≡ all)
  pub short : length text ≤ MAX_SCRIPT
  pub so : holds text

-- nothing was written, or a front of what is printed for a text that was read
abbrev pub IsFrontOfRead : Option (List ℕ) → Option (List ℕ) → Option (List ℕ) → (List ℕ → Type 0) → Type 0
IsFrontOfRead left old new prints = Keeps old new ⊎ IsOfRead left prints

-- a fault that comes once lines may be written: memory was refused, or a write failed
abbrev pub IsLate : RunFault → Type 0
IsLate NoMemory = Unit {0}
IsLate Write = Unit {0}
IsLate Read = ⊥
IsLate TooLong = ⊥
IsLate (BadScript line) = ⊥

-- a script that is too long or bad is told as what it is
abbrev pub IsTrueOf : RunFault → List ℕ → Type 0
IsTrueOf (BadScript line) input = script_of input ≡ Err (record { line = line })
IsTrueOf TooLong input = MAX_SCRIPT < length input
IsTrueOf Read input = Unit {0}
IsTrueOf NoMemory input = Unit {0}
IsTrueOf Write input = Unit {0}

-- a script is not read only where the last read failed, or as many reads were made as were allowed
abbrev pub IsOfReads : RunFault → Bool → ℕ → ℕ → ℕ → Type 0
IsOfReads Read failed allowed before after = IsReadFault failed allowed before after
IsOfReads _ failed allowed before after = Unit {0}

-- a fault that comes before anything is to be written
abbrev pub IsUnwritten : RunFault → Type 0
IsUnwritten Write = ⊥
IsUnwritten _ = Unit {0}

-- nothing is written of a script that was not read, or is bad
abbrev pub KeepsEarly : RunFault → Option (List ℕ) → Option (List ℕ) → Type 0
KeepsEarly Read old new = Keeps old new
KeepsEarly TooLong old new = Keeps old new
KeepsEarly (BadScript line) old new = Keeps old new
KeepsEarly NoMemory old new = Unit {0}
KeepsEarly Write old new = Unit {0}
