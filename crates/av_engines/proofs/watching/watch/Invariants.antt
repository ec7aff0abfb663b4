use Rattle.std.proofs.Common.{◌≡◌, ◌+◌, ◌≤◌, false, length}
use Rattle.av_store.specs.Store.{greatest}
use Rattle.av_base.specs.Recorded.{AreLeft}
use Rattle.av_engines.specs.Incoming.{budget}
use Rattle.av_engines.proofs.WatchingLemmas.{IsWatching}
use Rattle.av_engines.proofs.watching.watch.Given as goal

-- the messages so far were handled
abbrev pub invariant-messages : goal.invariant-messages
invariant-messages g l = record {
  watching :
      IsWatching l.fn.tally.at_once l.initial.opens l.fn.mounted.table l.fn.mounted.volume l.initial.exchange.incoming l.exchange.incoming l.exchange.outgoing
      (g.R.Read.remaining l.initial.reader) (g.R.Read.remaining l.reader) (g.W.Write.contents l.initial.writer) (g.W.Write.contents l.writer) l.mounted.table l.mounted.volume l.tally.answers.items l.tally.submitted;
  left : l.tally.submitted ≡ false → l.mounted.volume.opens + length l.opens ≤ greatest;
  first : l.tally.first ≡ l.fn.mounted.volume.opens;
  counted : AreLeft l.initial.exchange.incoming.turns (g.R.RecordedRead.reads l.initial.reader) (g.R.RecordedRead.reads l.reader) l.exchange.incoming.turns;
}

abbrev pub decreases-messages : goal.decreases-messages
decreases-messages g l = budget l.exchange.incoming
