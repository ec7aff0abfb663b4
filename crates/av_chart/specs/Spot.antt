-- Spots of a picture beside one another.
use Rattle.std.specs.Prelude.{ℕ, ◌+◌, ◌-◌, ◌^◌, min}
use Rattle.av_chart.specs.declared.spot.Spot.{Spot}

-- a number that is not past the farthest edge
abbrev pub within : ℕ → ℕ
within n = min n (2 ^ 32 - 1)

abbrev pub above : Spot → ℕ → Spot
above s by = record { x = s.x; y = s.y - by }

abbrev pub below : Spot → ℕ → Spot
below s by = record { x = s.x; y = within (s.y + by) }

abbrev pub left_of : Spot → ℕ → Spot
left_of s by = record { x = s.x - by; y = s.y }

abbrev pub right_of : Spot → ℕ → Spot
right_of s by = record { x = within (s.x + by); y = s.y }

-- the spot at these distances from the left edge and the top
abbrev pub spot : ℕ → ℕ → Spot
spot x y = record { x = x; y = y }
