-- Where the rows of a picture stand.
use Rattle.std.specs.Prelude.{ℕ, ◌+◌, ◌-◌, ◌*◌, ◌/◌, ◌≡◌, ◌<◌, ◌&&◌, Bool, nat_le, nat_lt, List, length, take, slice_index, if◌then◌else◌}
use Rattle.std.specs.List.{sum}
use Rattle.av_chart.specs.Spot.{within}
use Rattle.av_chart.specs.declared.life.Moment.{Moment}
use Rattle.av_chart.specs.declared.place.Places.{Places}

-- the top of the row at k: the heights and the gaps of the rows before it, and a band behind each fortieth
abbrev pub top_at : List ℕ → ℕ → ℕ
top_at heights k = 90 + sum (take k heights) + 9 * k + 26 * (k / 40)

-- each row stands at its top
pub record StandAt (rows heights : List ℕ) : Type 0 where
  pub each : length rows ≡ length heights
  pub tops : (k : ℕ) → k < length heights → slice_index rows k ≡ top_at heights k

-- the end of the last row
abbrev pub bottom_of : List ℕ → ℕ
bottom_of heights = 90 + sum heights + 9 * length heights + 26 * ((length heights - 1) / 40)

-- whether a step is shown
abbrev pub shows : Places → ℕ → Bool
shows p step = nat_le p.first step && nat_lt (step - p.first) (length p.tops.items)

-- the top of a step's row
abbrev pub top_of : Places → ℕ → ℕ
top_of p step =
    if nat_lt (step - p.first) (length p.tops.items) then slice_index p.tops.items (step - p.first) else p.bottom

-- the height at which a moment lies: what lies before or behind the picture is at its edge
abbrev pub y_of : Places → Moment → ℕ
y_of p m =
    if nat_lt m.step p.first then 78
    else if nat_lt (m.step - p.first) (length p.tops.items)
    then within (within (slice_index p.tops.items (m.step - p.first) + 12) + within (m.line * 19)) else p.bottom
