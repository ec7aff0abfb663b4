use Rattle.std.proofs.Common.{◌≡◌, ◌≤◌}
use Rattle.av_base.specs.Recorded.{AreLeft}
use Rattle.av_engines.specs.Incoming.{to_come}
use Rattle.av_engines.specs.Serving.{patterns_at}
use Rattle.av_engines.proofs.FreshLemmas.{Goes}
use Rattle.av_sigset.specs.Catalogue.{latest}
use Rattle.av_engines.proofs.serving.hear_all.Given as goal

-- what happened so far was handled
abbrev pub invariant-looks : goal.invariant-looks
invariant-looks g l = record {
  goes : Goes l.initial.catalogued.catalogue.sets l.catalogued.catalogue.sets l.initial.catalogued.service.desk l.catalogued.service.desk (g.F.Fresh.coming l.initial.fresh) (g.F.Fresh.coming l.fresh)
      l.initial.session.exchange.incoming l.session.exchange.incoming l.initial.session.exchange.outgoing l.session.exchange.outgoing
      (g.R.Read.remaining l.initial.reader) (g.R.Read.remaining l.reader) (g.W.Write.contents l.initial.writer) (g.W.Write.contents l.writer);
  newest : l.catalogued.service.desk.version ≤ latest l.catalogued.catalogue.sets;
  patterns : l.session.automaton.patterns ≡ patterns_at l.catalogued.catalogue.sets l.catalogued.service.desk.version;
  counted : AreLeft l.initial.session.exchange.incoming.turns (g.R.RecordedRead.reads l.initial.reader) (g.R.RecordedRead.reads l.reader) l.session.exchange.incoming.turns;
}

abbrev pub decreases-looks : goal.decreases-looks
decreases-looks g l = to_come l.session.exchange.incoming
