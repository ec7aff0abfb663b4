use Rattle.std.proofs.Common.{sym, ◌∙◌}
use Rattle.av_engines.proofs.CauseLemmas.{reads_of, same_end, writer_of}
use Rattle.av_engines.proofs.WatchingLemmas.{done_by, watched}
use Rattle.av_engines.proofs.watching.serve.Goals as goal

pub returns-clause-watches : goal.returns-clause-watches
returns-clause-watches g c =
    rw (c.of.ensures.end, c.of.ensures.answers, c.leave-end.ensures.still) (watched _ _ _ _ _ _ _ _ _ _ _ _ _ _ _ _ _ c.watch-would.ensures.runs c.leave-end.ensures.leaves)

pub returns-clause-nothing : goal.returns-clause-nothing
returns-clause-nothing g c done = c.watch-would.ensures.nothing (done_by _ _ _ _ _ _ _ c.leave-end.ensures.leaves (sym c.of.ensures.end ∙ done))

pub returns-clause-read : goal.returns-clause-read
returns-clause-read g c = rw (c.of.ensures.end) (reads_of _ _ _ _ _ _ (same_end _ _ _ _ _ _ _ c.leave-end.ensures.leaves) c.watch-would.ensures.read)

pub returns-clause-written : goal.returns-clause-written
returns-clause-written g c = rw (c.of.ensures.end) (writer_of _ _ _ (same_end _ _ _ _ _ _ _ c.leave-end.ensures.leaves) c.watch-would.ensures.written)
