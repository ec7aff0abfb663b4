use Rattle.std.proofs.Common.{◌≡◌, ◌+◌, ◌≤◌, ◌++◌, length, vec_len, vec_capacity}
use Rattle.av_base.specs.declared.cause.Cause.TheVariants.{Unsettled}
use Rattle.av_filter_table.specs.Chains.{AreChained, IsBehind, plains, of, essences}
use Rattle.av_filter_table.specs.Moving.{overs, moved_all, refusals}
use Rattle.av_filter_table.specs.FilterTable.{AreNumbered}
use Rattle.av_filter_table.proofs.moving.move_opens.Given as goal

-- the answers so far and those to come are all, and those that moved have moved as all shall
abbrev pub invariant-opens : goal.invariant-opens
invariant-opens l = record {
  answers : l.answers.items ++ refusals l.mode l.volume Unsettled (overs l.renewal.old (plains l.pended)) ≡ l.initial.answers.items ++ refusals l.mode l.volume Unsettled (overs l.renewal.old (plains l.initial.pended));
  moved : moved_all l.renewal.old l.renewal.new (plains l.pended) ≡ moved_all l.renewal.old l.renewal.new (plains l.initial.pended);
  behind : IsBehind l.renewal.old l.renewal.new (plains l.pended);
  chained : AreChained l.questions l.pended;
  numbered : AreNumbered l.initial.pended → AreNumbered l.pended;
  same : essences l.questions ≡ essences l.initial.questions;
  room : vec_len l.answers + length (of l.renewal.old (plains l.pended)) ≤ vec_capacity l.answers;
  capacity : vec_capacity l.answers ≡ vec_capacity l.initial.answers;
}

abbrev pub decreases-opens : goal.decreases-opens
decreases-opens l = length (of l.renewal.old (plains l.pended))
