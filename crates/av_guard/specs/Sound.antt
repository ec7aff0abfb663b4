-- What holds of a guard between calls.
use Rattle.std.specs.Prelude.{◌≡◌, length}
use Rattle.std.specs.declared.random_state.RandomState.{RandomState}
use Rattle.av_filter_table.specs.Table.{Table}
use Rattle.av_guard.specs.Asking.{bytes_kept}
use Rattle.av_guard.specs.Counts.{AreCounted}
use Rattle.av_guard.specs.Shelf.{Kept}
use Rattle.av_guard.specs.Telling.{Waiters}
use Rattle.av_guard.specs.Waiting.{ArePaired}
use Rattle.av_guard.specs.Written.{AreWritten}
use Rattle.av_store.specs.Store.{Store}

-- Each stream was written once, with the bytes that its name is of. Each open that the filter holds
-- has one who waits for it here, and each who waits has one open. As many opens wait for each stream as the shelf says; and as
-- many contents are kept, of as many bytes.
pub record IsSound (key : RandomState) (t : Table) (v : Store) (waiting : Waiters) (shelf : Kept) : Type 0 where
  pub written : AreWritten key v.streams
  pub paired : ArePaired t.pended waiting
  pub counted : AreCounted shelf.waits waiting
  pub count : shelf.count ≡ length v.streams
  pub bytes : shelf.bytes ≡ bytes_kept v
