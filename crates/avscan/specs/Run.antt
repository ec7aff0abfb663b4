-- What a script's run prints, and its status.
use Rattle.std.specs.Prelude.{ℕ, List, Option}
use Rattle.av_status.specs.declared.status.Status.{Status}
use Rattle.av_status.specs.declared.status.Status.TheVariants.{Refused, Memory, Device}
use Rattle.av_status.specs.declared.tally.Form.{Form}
use Rattle.av_status.specs.declared.tally.Form.TheVariants.{Lines, Json, ZeroEnded}
use Rattle.av_script.specs.Output.{Prints, PrintsFront, PrintsJson, PrintsJsonFront}
use Rattle.av_script.specs.declared.run_script.RunFault.{RunFault}
use Rattle.av_script.specs.declared.run_script.RunFault.TheVariants as fault

-- all that a script prints in a form was written
abbrev pub PrintsIn : Form → Option (List ℕ) → Option (List ℕ) → List ℕ → Type 0
PrintsIn Lines old new input = Prints old new input
PrintsIn Json old new input = PrintsJson old new input
PrintsIn ZeroEnded old new input = Prints old new input

-- a front of it
abbrev pub PrintsInFront : Form → Option (List ℕ) → Option (List ℕ) → List ℕ → Type 0
PrintsInFront Lines old new input = PrintsFront old new input
PrintsInFront Json old new input = PrintsJsonFront old new input
PrintsInFront ZeroEnded old new input = PrintsFront old new input

-- the status for a script that did not run to its end
abbrev pub status_of : RunFault → Status
status_of fault.Read = Device
status_of fault.TooLong = Refused
status_of (fault.BadScript line) = Refused
status_of fault.NoMemory = Memory
status_of fault.Write = Device
