-- Why no picture was written, by why the script was not read.
use Rattle.std.specs.Prelude.{ℕ, Bool}
use Rattle.av_base.specs.Recorded.{IsReadFault}
use Rattle.av_script.specs.declared.run_script.RunFault.{RunFault}
use Rattle.av_script.specs.declared.run_script.RunFault.TheVariants.{BadScript, NoMemory, Read, TooLong, Write}
use Rattle.av_chart.specs.declared.fault.ChartFault.{ChartFault}
use Rattle.av_chart.specs.declared.fault.ChartFault.TheVariants as chart

-- the fault of a picture that a fault of reading its script is; nothing is written where it is read
abbrev pub fault_of : RunFault → ChartFault
fault_of Read = chart.Read
fault_of TooLong = chart.TooLong
fault_of (BadScript line) = chart.BadScript line
fault_of NoMemory = chart.NoMemory
fault_of Write = chart.Read

-- a script is not read only where the last read failed, or as many reads were made as were allowed
abbrev pub IsOfReads : ChartFault → Bool → ℕ → ℕ → ℕ → Type 0
IsOfReads chart.Read failed allowed before after = IsReadFault failed allowed before after
IsOfReads _ failed allowed before after = Unit {0}
