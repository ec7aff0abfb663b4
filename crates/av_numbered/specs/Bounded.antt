-- Rows by number for which all memory was taken at first: an index in order, a slab of rows, and a slot for each row's value.
use Rattle.std.specs.Prelude.{◌≡◌, ℕ, ◌≤◌}
use Rattle.av_numbered.specs.declared.bounded.TheConstants.{MOST_ROWS}

-- there are no more rows than there may be, and room for as many
pub record HasRoom (count index_room row_count row_room value_room : ℕ) : Type 0 where
  pub counted : row_count ≡ count
  pub few : count ≤ MOST_ROWS
  pub numbers : MOST_ROWS ≤ index_room
  pub rows : MOST_ROWS ≤ row_room
  pub values : row_room ≤ value_room
