-- The version of the set that grants, and since when.
use Rattle.std.specs.Prelude.{ℕ, ◌≡◌, Bool, List}
use Rattle.av_clamd.specs.About.{IsDate}
use Rattle.av_clamd.specs.declared.about.About.{About}
use Rattle.av_peers.specs.declared.adopted.Adopted.{Adopted}

-- no version yet
abbrev pub none : List ℕ → Adopted
none date = record { version = 0; seconds = 0; date = date }

-- this version was taken up at this time, and it is dated so
abbrev pub IsAdopted : ℕ → ℕ → Adopted → Type 0
IsAdopted version seconds a = (a ≡ record { version = version; seconds = seconds; date = a.date }) × IsDate seconds a.date

-- what a client of clamd is told
abbrev pub about_of : Adopted → Bool → ℕ → About
about_of a is_ready waiting = record { version = a.version; date = a.date; is_ready = is_ready; waiting = waiting }
