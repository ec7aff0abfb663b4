use Rattle.std.proofs.Common.{ℕ, ◌≡◌, ◌<◌, ◌+◌, ◌-◌, ◌*◌, ◌/◌, take, get_or, vec_len}
use Rattle.std.specs.List.{sum}
use Rattle.av_chart.specs.Place.{top_at}
use Rattle.av_chart.proofs.place.Places.of.Given as goal

-- the rows so far stand at their tops, and the next one begins below them
abbrev pub invariant-rows : goal.invariant-rows
invariant-rows l =
    (l.y ≡ 90 + sum (take l.index l.heights) + 9 * l.index + 26 * ((l.index - 1) / 40)) × (vec_len l.tops ≡ l.index)
    × ((k : ℕ) → k < l.index → get_or l.tops.items k 0 ≡ top_at l.heights k)
