use Rattle.std.proofs.Common.{◌≡◌, ◌≤◌, ◌+◌, ◌++◌, Some, drop, length, vec_len}
use Rattle.std.specs.List.{AllByRecursion}
use Rattle.std.specs.Vec.{vec_capacity}
use Rattle.av_filter.specs.Conduct.{again_each}
use Rattle.av_filter.specs.Fit.{Stands}
use Rattle.av_filter_table.specs.Orderly.{AreInOrder}
use Rattle.av_filter_table.specs.Table.{question_at}
use Rattle.av_filter.proofs.losing.move_each.Given as goal

-- the questions that are left still run, there is room for what they give out, and what was given out with what they give is all
abbrev pub invariant-lost : goal.invariant-lost
invariant-lost l = record {
  stands : Stands l.table l.volume;
  order : AreInOrder (drop l.question-index l.lost);
  run : AllByRecursion (λ q. question_at q.id l.table.questions ≡ Some q) (drop l.question-index l.lost);
  answer_room : vec_len l.answers + length l.table.pended ≤ vec_capacity l.answers;
  message_room : vec_len l.messages + length (drop l.question-index l.lost) ≤ vec_capacity l.messages;
  table : (again_each l.table l.volume (drop l.question-index l.lost)).table ≡ (again_each l.initial.table l.volume l.lost).table;
  answers : l.answers.items ++ (again_each l.table l.volume (drop l.question-index l.lost)).answers
      ≡ l.initial.answers.items ++ (again_each l.initial.table l.volume l.lost).answers;
  messages : l.messages.items ++ (again_each l.table l.volume (drop l.question-index l.lost)).messages
      ≡ l.initial.messages.items ++ (again_each l.initial.table l.volume l.lost).messages;
}
