-- What came of files, in numbers, and how the program ends.
use Rattle.std.specs.Prelude.{ℕ, ◌+◌, ◌-◌, ◌^◌, ◌&&◌, Bool, true, if◌then◌else◌, min, nat_lt}
use Rattle.av_status.specs.Status.{graver_status}
use Rattle.av_status.specs.declared.status.Status.{Status}
use Rattle.av_status.specs.declared.status.Status.TheVariants.{Done, Found, FoundInPart}
use Rattle.av_status.specs.declared.tally.Shown.{Shown}
use Rattle.av_status.specs.declared.tally.Shown.TheVariants.{All, Infected}
use Rattle.av_status.specs.declared.tally.Tally.{Tally}
use Rattle.av_status.specs.declared.tally.Wishes.{Wishes}

-- a file has a line: each, or only those of which there is something to tell
abbrev pub has_line : Shown → Bool → Bool
has_line All is_told = true
has_line Infected is_told = is_told

-- one more, as far as there are numbers
abbrev pub one_more : ℕ → ℕ
one_more n = min (n + 1) (2 ^ 64 - 1)

-- no file yet
abbrev pub no_files : Tally
no_files = record { scanned = 0; infected = 0; missed = 0; worst = Done }

-- one file more that was scanned
abbrev pub with_scanned : Tally → Bool → Tally
with_scanned t is_infected = record t { scanned = one_more t.scanned; infected = if is_infected then one_more t.infected else t.infected }

-- one file more that could not be scanned
abbrev pub with_missed : Tally → Status → Tally
with_missed t s = record t { missed = one_more t.missed; worst = graver_status t.worst s }

-- something is infected, and the user wants a status for it
abbrev pub has_found : Wishes → Tally → Bool
has_found w t = w.has_found_status && nat_lt 0 t.infected

-- a run without a fault, and one whose greatest fault has this status. What was found has one status where all was scanned, and another
-- where it was not.
abbrev pub ending_of : Wishes → Tally → Status → Status
ending_of w t Done = if has_found w t then Found else Done
ending_of w t s = if has_found w t then FoundInPart else s

-- how a run ends
abbrev pub concluded : Wishes → Tally → Status
concluded w t = ending_of w t t.worst
