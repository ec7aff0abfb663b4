use Rattle.std.proofs.Common.{◌≡◌, ◌+◌, ◌≤◌, ◌++◌, drop, length, vec_len}
use Rattle.std.specs.Vec.{vec_capacity}
use Rattle.av_guard.specs.Counts.{AreCounted}
use Rattle.av_guard.specs.Telling.{left_by, told_by}
use Rattle.av_guard.proofs.settling.settle.Given as goal

-- what was told and what the rest will tell is all, and there is room for the rest
abbrev pub invariant-answers : goal.invariant-answers
invariant-answers l = record {
  told : l.told.items ++ told_by l.clients.keys l.filter l.waiting.entries (drop l.answer-index l.fn.out.answers.items)
      ≡ l.initial.told.items ++ told_by l.clients.keys l.filter l.initial.waiting.entries l.fn.out.answers.items;
  waiting : left_by l.waiting.entries (drop l.answer-index l.fn.out.answers.items) ≡ left_by l.initial.waiting.entries l.fn.out.answers.items;
  room : vec_len l.told + length (drop l.answer-index l.fn.out.answers.items) ≤ vec_capacity l.told;
  counted : AreCounted l.shelf.waits l.waiting.entries;
  count : l.shelf.count ≡ l.initial.shelf.count;
  bytes : l.shelf.bytes ≡ l.initial.shelf.bytes;
}
