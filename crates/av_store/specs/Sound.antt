-- What holds of the streams of every volume, however it was made by calls.
use Rattle.std.specs.Prelude.{ℕ, ◌≡◌, List, length}
use Rattle.std.specs.List.{AllByRecursion}
use Rattle.av_base.specs.Limits.{AreInRange}
use Rattle.av_base.specs.declared.limits.LimitValues.{LimitValues}
use Rattle.av_store.specs.Bounds.{IsInBounds}
use Rattle.av_store.specs.Files.{File}
use Rattle.av_store.specs.Rows.{Streams}
use Rattle.av_store.specs.Seen.{Keeps, seen}
use Rattle.av_store.specs.Store.{Store}

-- the volume keeps what some files say
abbrev pub IsOfFiles : Store → Type 0
IsOfFiles v = (files : List File) × Keeps v files

-- Under these limits, which are in range, each stream is in its ranges, and the streams are what some files say, as many as
-- the last number given.
pub record IsSound (limits : LimitValues) (last : ℕ) (ss : Streams) : Type 0 where
  pub range : AreInRange limits
  pub bounds : AllByRecursion (IsInBounds limits) ss
  pub files : List File
  pub streams : ss ≡ seen files
  pub count : last ≡ length files
