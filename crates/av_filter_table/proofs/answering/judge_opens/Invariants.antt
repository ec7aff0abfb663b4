use Rattle.std.proofs.Common.{◌≡◌, ◌+◌, ◌≤◌, ◌++◌, length, vec_len, vec_capacity}
use Rattle.av_filter_table.specs.Answering.{all_judged, MayJudge}
use Rattle.av_filter_table.specs.FilterTable.{id_of}
use Rattle.av_filter_table.specs.Table.{opens_of, other_opens}
use Rattle.av_filter_table.proofs.answering.judge_opens.Given as goal

-- the answers so far and those to come are all, the version may judge those to come, there is room for them, and nothing else
-- has changed
abbrev pub invariant-judged : goal.invariant-judged
invariant-judged l = record {
  answers : l.answers.items ++ all_judged l.verdict l.generation l.version (opens_of (id_of l.table.boot l.question) l.table.pended)
      ≡ l.initial.answers.items ++ all_judged l.verdict l.generation l.version (opens_of (id_of l.initial.table.boot l.question) l.initial.table.pended);
  others : other_opens (id_of l.table.boot l.question) l.table.pended ≡ other_opens (id_of l.initial.table.boot l.question) l.initial.table.pended;
  rest : l.table ≡ record l.initial.table { pended = l.table.pended };
  leasts : MayJudge l.version (opens_of (id_of l.table.boot l.question) l.table.pended);
  room : vec_len l.answers + length (opens_of (id_of l.table.boot l.question) l.table.pended) ≤ vec_capacity l.answers;
  capacity : vec_capacity l.answers ≡ vec_capacity l.initial.answers;
}

abbrev pub decreases-judged : goal.decreases-judged
decreases-judged l = length (opens_of (id_of l.table.boot l.question) l.table.pended)
