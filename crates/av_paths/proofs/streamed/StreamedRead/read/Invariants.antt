use Rattle.std.proofs.Common.{◌≤◌, length}
use Rattle.av_paths.proofs.streamed.StreamedRead.read.Given as goal

-- no more was put into the buffer than there is room for
abbrev pub invariant-pieces : goal.invariant-pieces
invariant-pieces g l = l.filled ≤ length l.buf
