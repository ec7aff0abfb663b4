use Rattle.std.proofs.Common.{◌≡◌}
use Rattle.av_filter_table.proofs.tests.waiting.Given as goal

abbrev pub invariant-rescans : goal.invariant-rescans
invariant-rescans g l = record {
  number : l.held.open_id ≡ l.number;
  least : l.held.least ≡ 0;
}
