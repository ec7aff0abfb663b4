use Rattle.std.proofs.Common.{◌+◌, ◌≤◌, length}
use Rattle.av_match.specs.Passed.{AreOver}
use Rattle.av_match.proofs.parts.round.Given as goal

-- each window has come to its place, and has room for what is left
abbrev pub invariant-moves : goal.invariant-moves
invariant-moves l = record {
  a : AreOver l.tables l.piece l.fn.from.a l.a;
  b : AreOver l.tables l.piece l.fn.from.b l.b;
  c : AreOver l.tables l.piece l.fn.from.c l.c;
  d : AreOver l.tables l.piece l.fn.from.d l.d;
  e : AreOver l.tables l.piece l.fn.from.e l.e;
  f : AreOver l.tables l.piece l.fn.from.f l.f;
  a_room : l.a + l.left + l.tables.window ≤ length l.piece;
  b_room : l.b + l.left + l.tables.window ≤ length l.piece;
  c_room : l.c + l.left + l.tables.window ≤ length l.piece;
  d_room : l.d + l.left + l.tables.window ≤ length l.piece;
  e_room : l.e + l.left + l.tables.window ≤ length l.piece;
  f_room : l.f + l.left + l.tables.window ≤ length l.piece;
}

abbrev pub decreases-moves : goal.decreases-moves
decreases-moves l = l.left
