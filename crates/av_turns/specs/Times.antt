-- Times, and which number has which.
use Rattle.std.specs.Prelude.{◌≡◌, ◌≤◌, ℕ, ◌+◌, min, Bool, true, false, not, ◌&&◌, ◌||◌, nat_eq, List, Option, None, Some}
use Rattle.std.specs.Ordering.{nat_cmp, ordering_then}
use Rattle.std.specs.declared.cmp.Ordering.{Ordering}
use Rattle.std.specs.BTreeMap.{is_at}
use Rattle.std.specs.List.{list_any}

-- the earlier of two times
abbrev pub earlier : Option ℕ → Option ℕ → Option ℕ
earlier None other = other
earlier (Some a) None = Some a
earlier (Some a) (Some b) = Some (min a b)

-- so much later, as far as 64 bits count
abbrev pub after : Option ℕ → ℕ → Option ℕ
after None wait = None
after (Some time) wait = Some (min (time + wait) 18446744073709551615)

-- entries are ordered by their times, then by their numbers
abbrev pub by_time : ℕ × ℕ → ℕ × ℕ → Ordering
by_time a b = ordering_then (nat_cmp a.0 b.0) (nat_cmp a.1 b.1)

-- the number has this time
abbrev pub has : ℕ → ℕ → List (ℕ × ℕ) → Bool
has time number times = list_any (is_at (by_time (time, number))) times

-- it is this time
abbrev pub is_time : Option ℕ → ℕ → Bool
is_time None time = false
is_time (Some t) time = nat_eq t time

-- a number's time is another now, and the others are as before
abbrev pub Changes : List (ℕ × ℕ) → List (ℕ × ℕ) → ℕ → Option ℕ → Option ℕ → Type 0
Changes old new number was is =
    (q time : ℕ) → has time q new ≡ ((nat_eq q number && is_time is time) || (has time q old && not (nat_eq q number && is_time was time)))

-- a number has its time no more
abbrev pub Forgets : List (ℕ × ℕ) → List (ℕ × ℕ) → ℕ → Option ℕ → Type 0
Forgets old new number was = (q time : ℕ) → has time q new ≡ (has time q old && not (nat_eq q number && is_time was time))

-- a number has this time too
abbrev pub Adds : List (ℕ × ℕ) → List (ℕ × ℕ) → ℕ → Option ℕ → Type 0
Adds old new number is = (q time : ℕ) → has time q new ≡ ((nat_eq q number && is_time is time) || has time q old)

-- no number has an earlier time
abbrev pub IsNoneEarlier : List (ℕ × ℕ) → ℕ → Type 0
IsNoneEarlier times first = (q time : ℕ) → has time q times ≡ true → first ≤ time

-- no number has a time
abbrev pub IsEmpty : List (ℕ × ℕ) → Type 0
IsEmpty times = (q time : ℕ) → has time q times ≡ false
