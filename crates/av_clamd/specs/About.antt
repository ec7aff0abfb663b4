-- What a guard tells of itself.
use Rattle.std.specs.Prelude.{ℕ, ◌≡◌, ◌+◌, ◌/◌, ◌%◌, ◌==◌, ◌++◌, ◌∷◌, [], Bool, true, false, List, Option, None, Some, codes, decimal, min, if◌then◌else◌}
use Rattle.httpdate.specs.Date.{unix_secs}
use Rattle.httpdate.specs.Text.{asctime_date}
use Rattle.httpdate.specs.declared.date.HttpDate.{HttpDate}
use Rattle.httpdate.specs.declared.parts.Parts.{Parts}
use Rattle.av_clamd.specs.declared.about.About.{About}

-- a digit, with a space in place of 0
abbrev pub spaced : ℕ → ℕ
spaced digit = if digit == 48 then 32 else digit

-- a day in two places
abbrev pub day_text : ℕ → List ℕ
day_text day = spaced (48 + day / 10) ∷ (48 + day % 10) ∷ []

-- a date as clamd has it
abbrev pub date_text : Parts → List ℕ
date_text p = asctime_date (day_text p.day) p

-- a time counted from 1970 in seconds; the last one of the year 9999 stands for all after it
abbrev pub IsDate : ℕ → List ℕ → Type 0
IsDate seconds text = (d : HttpDate) × (unix_secs d ≡ min seconds 253_402_300_799) × (text ≡ date_text d.parts)

-- the version of the set, and when it was taken up
abbrev pub set_text : About → List ℕ
set_text about = codes "/" ++ decimal about.version ++ codes "/" ++ about.date

-- what is answered to VERSION: with the set that grants, where there is one
unfoldable pub version_text : Option About → List ℕ
version_text None = codes "Vizdroun 1"
version_text (Some about) = codes "Vizdroun 1" ++ (if about.version == 0 then [] else set_text about)

-- contents are judged, or not
abbrev pub state_word : Bool → List ℕ
state_word true = codes "VALID"
state_word false = codes "INVALID"

-- the lines of it
unfoldable pub state_text : Bool → List ℕ
state_text is_ready = codes "POOLS: 1\n\nSTATE: " ++ state_word is_ready ++ codes " PRIMARY\n"

unfoldable pub queue_text : ℕ → List ℕ
queue_text waiting = codes "THREADS: live 1  idle 0 max 1 idle-timeout 0\nQUEUE: " ++ decimal waiting ++ codes " items\n\n"

abbrev pub memory_text : List ℕ
memory_text = codes "MEMSTATS: heap N/A mmap N/A used N/A free N/A releasable N/A pools 1 pools_used N/A pools_total N/A\nEND"

-- what is answered to STATS
abbrev pub stats_text : About → List ℕ
stats_text about = state_text about.is_ready ++ queue_text about.waiting ++ memory_text
