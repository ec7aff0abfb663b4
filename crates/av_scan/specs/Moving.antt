-- Which files are moved out of the way, and how a fault of that counts.
use Rattle.std.specs.Prelude.{ℕ, ◌≡◌, ◌&&◌, Bool, true, false, List, Option, Some, Result, Ok, Err, string_bytes}
use Rattle.std.specs.Borrow.{Bor}
use Rattle.av_files.specs.Findings.{is_found}
use Rattle.av_files.specs.declared.finding.Finding.{Finding}
use Rattle.av_scan.specs.declared.moving.Moving.{Moving}
use Rattle.av_scan.specs.declared.told.Told.{Told}
use Rattle.av_scan.specs.declared.told.Told.TheVariants.{Scanned}
use Rattle.av_scan.specs.declared.told.Unscanned.{Unscanned}
use Rattle.av_status.specs.Status.{IsDoneOrFault, graver_status}
use Rattle.av_status.specs.declared.status.Status.{Status}
use Rattle.av_status.specs.declared.status.Status.TheVariants.{Done}
use Rattle.av_status.specs.declared.tally.Tally.{Tally}

-- a file is moved where infected files are, and something was found in it
abbrev pub is_moved : Bool → Result (List Finding) Unscanned → Bool
is_moved moves (Ok fs) = moves && is_found fs
is_moved moves (Err u) = false

-- a move of this file into this folder: by its own name, and only if it is the file that was opened
abbrev pub IsMoveOf : Option (Bor (List ℕ)) → Told → Moving → Type 0
IsMoveOf (Some folder) (Scanned name findings opened) m = (m.folder ≡ folder) × (m.name.now ≡ string_bytes name) × (m.seen ≡ opened)
IsMoveOf folder told m = ⊥

-- how a move ended: Done, or the fault for which the file stays; Done where it is not moved
abbrev pub IsEndOfMove : Bool → Status → Type 0
IsEndOfMove true s = IsDoneOrFault s
IsEndOfMove false s = s ≡ Done

-- the run ends no better than with this fault; Done is none
abbrev pub with_fault : Tally → Status → Tally
with_fault t fault = record { scanned = t.scanned; infected = t.infected; missed = t.missed; worst = graver_status t.worst fault }

-- nothing but the end of a move counts
abbrev pub IsCountedOn : Bool → Tally → Tally → Type 0
IsCountedOn is_moved before after = (fault : Status) × IsEndOfMove is_moved fault × (after ≡ with_fault before fault)
