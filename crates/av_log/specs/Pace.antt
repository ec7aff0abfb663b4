-- When the place of a file is looked at.
use Rattle.std.specs.Prelude.{ℕ, ◌+◌, ◌||◌, Bool, true, nat_le, nat_lt, Option, None, Some}

-- it was not looked at so far, or a second has passed, or the clock went back
abbrev pub is_due : Option ℕ → ℕ → Bool
is_due None now = true
is_due (Some looked) now = nat_le (looked + 1000) now || nat_lt now looked
