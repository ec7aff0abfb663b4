use Rattle.std.proofs.Common.{◌≡◌, ◌+◌, ◌≤◌, ◌++◌, length, vec_len}
use Rattle.std.specs.Vec.{vec_capacity}
use Rattle.av_filter.specs.Ending.{all_told}
use Rattle.av_filter_table.specs.FilterTable.{id_of}
use Rattle.av_filter_table.specs.Table.{opens_of, other_opens}
use Rattle.av_filter.proofs.closing.answer_opens.Given as goal

-- the answers so far and those to come are all, there is room for those to come, and nothing else has changed
abbrev pub invariant-opens : goal.invariant-opens
invariant-opens l = record {
  answers : l.answers.items ++ all_told l.initial.table l.volume l.ending (opens_of (id_of l.table.boot l.question) l.table.pended)
      ≡ l.initial.answers.items ++ all_told l.initial.table l.volume l.ending (opens_of (id_of l.initial.table.boot l.question) l.initial.table.pended);
  others : other_opens (id_of l.table.boot l.question) l.table.pended ≡ other_opens (id_of l.initial.table.boot l.question) l.initial.table.pended;
  rest : l.table ≡ record l.initial.table { pended = l.table.pended };
  capacity : vec_capacity l.answers ≡ vec_capacity l.initial.answers;
  room : vec_len l.answers + length (opens_of (id_of l.table.boot l.question) l.table.pended) ≤ vec_capacity l.answers;
}

abbrev pub decreases-opens : goal.decreases-opens
decreases-opens l = length (opens_of (id_of l.table.boot l.question) l.table.pended)
