use Rattle.std.specs.Prelude.{ℕ, ◌+◌, ◌-◌, ◌*◌, ◌^◌, ◌==◌, ◌&&◌, ◌||◌, Bool, nat_lt, nat_le, List, [], ◌∷◌, length, Option, None, Some, slice_index, if◌then◌else◌}
use Rattle.std.specs.List.{list_all}

-- the value of digits behind a number
abbrev pub value_from : ℕ → List ℕ → ℕ
value_from n [] = n
value_from n (b ∷ bs) = value_from (n * 10 + (b - 48)) bs

-- a digit is one of the bytes from 48 to 57
abbrev pub is_digit : ℕ → Bool
is_digit b = nat_le 48 b && nat_le b 57

-- what digits spell, where it is below 2^64
abbrev pub digits_of : List ℕ → Option ℕ
digits_of bs = if list_all is_digit bs && nat_lt (value_from 0 bs) (2 ^ 64) then Some (value_from 0 bs) else None

-- the number of a word: no zero stands in front, unless it is all
abbrev pub decimal_of : List ℕ → Option ℕ
decimal_of bs = if length bs == 0 || (slice_index bs 0 == 48 && nat_lt 1 (length bs)) then None else digits_of bs
