use Rattle.std.proofs.Common.{◌+◌, ◌<◌}
use Rattle.std.specs.List.{AllByRecursion}
use Rattle.av_filter_table.specs.Answering.{MayJudge}
use Rattle.av_filter_table.specs.FilterTable.{open_numbers}
use Rattle.av_filter_table.proofs.tests.hold_each.Given as goal

abbrev pub invariant-opens : goal.invariant-opens
invariant-opens g l = record {
  below : AllByRecursion (λ n. n < l.last + 1) (open_numbers l.table.pended);
  leasts : MayJudge 0 l.table.pended;
}
