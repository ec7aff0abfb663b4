-- Why no picture was written.
use Rattle.std.proofs.Common.{ℕ, Bool}
use Rattle.av_script.specs.Output.{IsUnwritten}
use Rattle.av_script.specs.Output.{IsOfReads as IsOfScriptReads}
use Rattle.av_script.specs.declared.run_script.RunFault.{RunFault}
use Rattle.av_script.specs.declared.run_script.RunFault.TheVariants.{BadScript, NoMemory, Read, TooLong, Write}
use Rattle.av_chart.specs.Fault.{IsOfReads, fault_of}

-- the reader's failure is that of the script, of which nothing was to be written
pub of_script : (f : RunFault) (failed : Bool) (allowed before after : ℕ) → IsUnwritten f → IsOfScriptReads f failed allowed before after
    → IsOfReads (fault_of f) failed allowed before after
of_script Read failed allowed before after p q = q
of_script TooLong failed allowed before after p q = tt
of_script (BadScript line) failed allowed before after p q = tt
of_script NoMemory failed allowed before after p q = tt
of_script Write failed allowed before after p q = absurd p
