use Rattle.std.proofs.Common.{◌≤◌, length}
use Rattle.std.specs.Io.KnownBytes.{Consumes}
use Rattle.av_base.specs.Recorded.{AreLeft}
use Rattle.av_base.proofs.recorded.read_whole.Given as goal

-- what was read so far came from the front, in as many reads
abbrev pub invariant-reads : goal.invariant-reads
invariant-reads g l =
    Consumes (g.R.Read.remaining l.initial.reader) (g.R.Read.remaining l.reader) l.bytes.items × (length l.bytes.items ≤ l.limit)
    × AreLeft l.counter (g.R.RecordedRead.reads l.initial.reader) (g.R.RecordedRead.reads l.reader) 0
