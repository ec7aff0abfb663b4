-- Since when numbers are waited for.
use Rattle.std.specs.Prelude.{ℕ, ◌≡◌, ◌≤◌, ◌<◌, ◌+◌, min, Bool, true, List, Option, None, Some, is_some, nat_eq, if◌then◌else◌}
use Rattle.std.specs.BTreeMap.{is_at}
use Rattle.std.specs.Map.{lookup}
use Rattle.std.specs.Ordering.{nat_cmp}
use Rattle.av_turns.specs.Times.{after, has, is_time}

-- since when a number is waited for
abbrev pub since_of : List (ℕ × ℕ) → ℕ → Option ℕ
since_of waits n = lookup (is_at (nat_cmp n)) waits

-- each number has its time among these, and no other
abbrev pub AreTimed : List (ℕ × ℕ) → List (ℕ × ℕ) → Type 0
AreTimed waits times = (n time : ℕ) → has time n times ≡ is_time (since_of waits n) time

abbrev pub IsWaitedFor : List (ℕ × ℕ) → ℕ → Type 0
IsWaitedFor waits n = is_some (since_of waits n) ≡ true

-- a number is waited for since then, or no more, and the others are as before
abbrev pub Sets : List (ℕ × ℕ) → List (ℕ × ℕ) → ℕ → Option ℕ → Type 0
Sets old new n since = (q : ℕ) → since_of new q ≡ (if nat_eq q n then since else since_of old q)

abbrev pub Ends : List (ℕ × ℕ) → List (ℕ × ℕ) → ℕ → Type 0
Ends old new n = Sets old new n None

-- so long after a moment, as far as 64 bits count
abbrev pub until : ℕ → ℕ → ℕ
until since wait = min (since + wait) 18446744073709551615

-- no number is waited for longer
abbrev pub IsLongest : List (ℕ × ℕ) → ℕ → Type 0
IsLongest waits since = (q s : ℕ) → since_of waits q ≡ Some s → since ≤ s

-- A number is late: none is waited for longer, and the whole wait has passed; it is waited for no more. Or none is late.
abbrev pub Lates : List (ℕ × ℕ) → List (ℕ × ℕ) → ℕ → ℕ → Option ℕ → Type 0
Lates old new wait now (Some n) =
    (since : ℕ) × (since_of old n ≡ Some since) × IsLongest old since × (until since wait ≤ now) × Ends old new n
Lates old new wait now None = (new ≡ old) × ((q s : ℕ) → since_of old q ≡ Some s → now < until s wait)

-- the first moment at which a number is late
abbrev pub IsDue : List (ℕ × ℕ) → ℕ → Option ℕ → Type 0
IsDue waits wait (Some due) = (n since : ℕ) × (since_of waits n ≡ Some since) × IsLongest waits since × (due ≡ until since wait)
IsDue waits wait None = (q : ℕ) → since_of waits q ≡ None
