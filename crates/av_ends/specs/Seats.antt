-- Seats of a floor.
use Rattle.std.specs.Prelude.{◌≡◌, ℕ}
use Rattle.av_ends.specs.declared.floor.Floor.{Floor}
use Rattle.av_ends.specs.declared.floor.FloorSeat.{FloorSeat}

-- the seat is of this floor
abbrev pub IsFloorSeatOf : Floor → FloorSeat → Type 0
IsFloorSeatOf f s = s.seat.table_id ≡ f.table.shared.table_id

-- what the seat has seen
abbrev pub seen : FloorSeat → ℕ
seen s = s.seat.me.0
