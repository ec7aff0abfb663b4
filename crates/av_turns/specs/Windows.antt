-- How many questions may run at once: small and large ones have a window each.
use Rattle.std.specs.Prelude.{ℕ, ◌+◌, ◌-◌, min, Bool, nat_eq, nat_le, nat_lt, ◌||◌, if◌then◌else◌}
use Rattle.av_turns.specs.declared.windows.Windows.{Windows}

-- a content of more bytes is large
abbrev pub is_large : ℕ → Bool
is_large bytes = nat_lt 4096 bytes

-- what a question counts in its window
abbrev pub cost_of : ℕ → ℕ
cost_of bytes = min (bytes + 32768) 18446744073709551615

-- one may always run, and others within the window
abbrev pub is_within : ℕ → ℕ → ℕ → Bool
is_within running bytes window = nat_eq running 0 || nat_le (min (running + cost_of bytes) 18446744073709551615) window

abbrev pub has_room : ℕ → Windows → Bool
has_room bytes w = if is_large bytes then is_within w.large bytes 1048576 else is_within w.small bytes 294912

-- a question more, and one less
abbrev pub added : ℕ → Windows → Windows
added bytes w =
    if is_large bytes then record w { large = min (w.large + cost_of bytes) 18446744073709551615 } else record w { small = min (w.small + cost_of bytes) 18446744073709551615 }

abbrev pub removed : ℕ → Windows → Windows
removed bytes w = if is_large bytes then record w { large = w.large - cost_of bytes } else record w { small = w.small - cost_of bytes }
