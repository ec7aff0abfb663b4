use Rattle.av_filter_table.proofs.WalkLemmas.{Walks}
use Rattle.av_filter_table.proofs.chains.has_rescan_left.Given as goal

abbrev pub invariant-opens : goal.invariant-opens
invariant-opens l = Walks l.question l.next l.counter l.end l.pended
