-- How many opens wait for each stream.
use Rattle.std.specs.Prelude.{◌≡◌, ℕ, List, map}
use Rattle.av_filter.specs.Once.{times}
use Rattle.av_guard.specs.Shelf.{waits_of}
use Rattle.av_guard.specs.Telling.{Waiters}

-- as many wait for each stream as it is said
abbrev pub AreCounted : List (ℕ × ℕ) → Waiters → Type 0
AreCounted waits waiting = (s : ℕ) → waits_of waits s ≡ times s (map (λ e. e.1.stream) waiting)
