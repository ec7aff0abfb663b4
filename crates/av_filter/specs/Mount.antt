-- A filter and the volume that it is mounted on, as one value.
use Rattle.av_filter_table.specs.Table.{Table}
use Rattle.av_store.specs.Store.{Store}

-- a filter's table, and the volume that it is mounted on
pub record Mount : Type 0 where
  pub table : Table
  pub volume : Store
