use Rattle.std.proofs.Common.{◌≡◌, [], length}
use Rattle.av_filter_table.proofs.EndingLemmas.{all_lost}
use Rattle.av_filter_table.proofs.answering.lose_questions.Given as goal

-- no open waits, and with the questions that are left lost too, all are
abbrev pub invariant-questions : goal.invariant-questions
invariant-questions l = record {
  none : l.table.pended ≡ [];
  same : all_lost l.table ≡ all_lost l.initial.table;
}

abbrev pub decreases-questions : goal.decreases-questions
decreases-questions l = length l.table.questions
