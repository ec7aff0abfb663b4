use Rattle.std.proofs.Common.{◌≡◌, ◌≤◌, []}
use Rattle.av_base.specs.Recorded.{AreLeft}
use Rattle.av_engines.specs.Incoming.{Takes, to_come}
use Rattle.av_engines.proofs.incoming.Incoming.next.Given as goal

-- nothing was taken so far
abbrev pub invariant-looks : goal.invariant-looks
invariant-looks g l = record {
  taken : Takes l.initial.self l.self (g.R.Read.remaining l.initial.reader) (g.R.Read.remaining l.reader) [];
  counted : AreLeft l.initial.self.turns (g.R.RecordedRead.reads l.initial.reader) (g.R.RecordedRead.reads l.reader) l.self.turns;
  turns : l.self.turns ≤ l.initial.self.turns;
  spent : l.initial.self.turns ≡ 0 → g.R.Read.remaining l.reader ≡ g.R.Read.remaining l.initial.reader;
}

abbrev pub decreases-looks : goal.decreases-looks
decreases-looks g l = to_come l.self
