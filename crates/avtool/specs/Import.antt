-- What an import writes, and its status.
use Rattle.std.specs.Prelude.{ℕ, ◌≡◌, ◌<◌, true, List, length, Option}
use Rattle.av_import.specs.Import.{Taken}
use Rattle.av_import.specs.declared.import.ImportFault.{ImportFault}
use Rattle.av_import.specs.declared.import.ImportFault.TheVariants as fault
use Rattle.av_sigset.specs.Spelling.{spelling}
use Rattle.av_status.specs.declared.status.Status.{Status}
use Rattle.av_status.specs.declared.status.Status.TheVariants.{Memory, Device}
use Rattle.avtool.specs.Placing.{GoesOut}
use Rattle.avtool_words.specs.declared.request.Import.{Import}

-- something was taken, its signature file went to standard output, unless a file was named, of the version that was asked for, and where
-- all is wanted nothing was left out
abbrev pub Writes : Import → Taken → Option (List ℕ) → Option (List ℕ) → Type 0
Writes asked import old new =
    (0 < length import.signatures)
    × GoesOut asked.output old new (spelling (record { version = asked.version; signatures = import.signatures }))
    × (asked.taking.wants_all ≡ true → import.left ≡ 0)

-- the status for signatures that were not taken, or not written
abbrev pub status_of : ImportFault → Status
status_of fault.NoMemory = Memory
status_of fault.Write = Device
