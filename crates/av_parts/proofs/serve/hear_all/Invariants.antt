use Rattle.std.proofs.Common.{◌≡◌, List, [], length}
use Rattle.av_parts.specs.declared.serve.TheConstants.{PIECE}
use Rattle.av_parts.specs.Serving.{Read}
use Rattle.av_parts.specs.Steps.{Goes}
use Rattle.av_parts.proofs.serve.hear_all.Given as goal

-- so many reads were made, and what came of them
abbrev pub invariant-reads : goal.invariant-reads
invariant-reads g l =
    (length l.engine.buffer.items ≡ PIECE)
    × (reads : List Read)
    × (length reads ≡ l.counter)
    × Goes reads [] l.fn.engine.side.orders l.engine.side.orders l.fn.engine.side.judge l.engine.side.judge l.fn.engine.side.waits.items
    l.engine.side.waits.items (g.N.Newest.looks l.fn.newest) (g.N.Newest.looks l.newest) (g.R.Read.remaining l.fn.reader) (g.R.Read.remaining l.reader)
    (g.W.Write.contents l.fn.writer) (g.W.Write.contents l.writer)
