use Rattle.std.proofs.Common.{◌≡◌, ◌≤◌, length, take}
use Rattle.std.specs.Io.KnownBytes.{Consumes}
use Rattle.av_base.proofs.device.read_into.Given as goal

-- the front of the buffer came from the front of the input
abbrev pub invariant-reads : goal.invariant-reads
invariant-reads g l =
    Consumes (g.R.Read.remaining l.initial.reader) (g.R.Read.remaining l.reader) (take l.count l.buffer) × (l.count ≤ length l.buffer) × (length l.buffer ≡ length l.initial.buffer)
