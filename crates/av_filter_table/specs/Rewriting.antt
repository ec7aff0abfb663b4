-- Changes of one stream's bytes.
use Rattle.std.specs.Prelude.{ℕ}
use Rattle.av_filter_table.specs.declared.rewriting.Rewriting.{Rewriting}
use Rattle.av_filter_table.specs.declared.rewriting.Rewriting.TheVariants as rewriting
use Rattle.av_store.specs.Files.{Change, Write, Cut}

-- a rewriting of a stream is this change of the volume
abbrev pub change_by : ℕ → Rewriting → Change
change_by s (rewriting.Write offset bytes) = Write s offset bytes.now
change_by s (rewriting.Cut length) = Cut s length
