-- The ranges of a volume's streams, over events.
use Rattle.std.specs.Prelude.{ℕ, ◌≡◌, None}
use Rattle.av_base.specs.Limits.{AreInRange}
use Rattle.av_base.specs.declared.limits.LimitValues.{LimitValues}
use Rattle.av_filter.specs.Conduct.{FilterEvent, filter_refusal, filter_step}
use Rattle.av_filter_table.specs.Table.{Table}
use Rattle.av_store.specs.Bounds.{AreInBounds}
use Rattle.av_store.specs.Store.{Store, empty_store}

-- an empty volume is in them, and every event leaves it so
pub record KeepsBounds : Type 0 where
  pub starts : (number : ℕ) (limits : LimitValues) → AreInRange limits → AreInBounds (empty_store number limits)
  pub events : (t : Table) (v : Store) (e : FilterEvent) → AreInBounds v → filter_refusal t v e ≡ None
      → AreInBounds (filter_step t v e).volume
