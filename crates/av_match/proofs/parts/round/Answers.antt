use Rattle.std.proofs.Common.{arith}
use Rattle.av_match.proofs.PassedLemmas.{over_pair}
use Rattle.av_match.proofs.parts.round.Goals as goal

pub moves-preserved : goal.moves-preserved
moves-preserved c =
    let below = c.args.tables.now.moves c.requires.wide in record {
      a = over_pair c.args.tables.now c.args.piece.now c.after-pairs.result.now c.args.from.a c.moves.a c.pair_shift-p.result c.requires.wide c.after-pairs.ensures c.moves.invariant.a (omega (arith, c.moves.invariant.a_room)) c.pair_shift-p.ensures.shift;
      b = over_pair c.args.tables.now c.args.piece.now c.after-pairs.result.now c.args.from.b c.moves.b c.pair_shift-q.result c.requires.wide c.after-pairs.ensures c.moves.invariant.b (omega (arith, c.moves.invariant.b_room)) c.pair_shift-q.ensures.shift;
      c = over_pair c.args.tables.now c.args.piece.now c.after-pairs.result.now c.args.from.c c.moves.c c.pair_shift-r.result c.requires.wide c.after-pairs.ensures c.moves.invariant.c (omega (arith, c.moves.invariant.c_room)) c.pair_shift-r.ensures.shift;
      d = over_pair c.args.tables.now c.args.piece.now c.after-pairs.result.now c.args.from.d c.moves.d c.pair_shift-s.result c.requires.wide c.after-pairs.ensures c.moves.invariant.d (omega (arith, c.moves.invariant.d_room)) c.pair_shift-s.ensures.shift;
      e = over_pair c.args.tables.now c.args.piece.now c.after-pairs.result.now c.args.from.e c.moves.e c.pair_shift-t.result c.requires.wide c.after-pairs.ensures c.moves.invariant.e (omega (arith, c.moves.invariant.e_room)) c.pair_shift-t.ensures.shift;
      f = over_pair c.args.tables.now c.args.piece.now c.after-pairs.result.now c.args.from.f c.moves.f c.pair_shift-u.result c.requires.wide c.after-pairs.ensures c.moves.invariant.f (omega (arith, c.moves.invariant.f_room)) c.pair_shift-u.ensures.shift;
      a_room = omega (arith, c.moves.invariant.a_room, c.pair_shift-p.ensures.small c.args.tables.now.window below, c.moves-test.true, c.requires.wide);
      b_room = omega (arith, c.moves.invariant.b_room, c.pair_shift-q.ensures.small c.args.tables.now.window below, c.moves-test.true, c.requires.wide);
      c_room = omega (arith, c.moves.invariant.c_room, c.pair_shift-r.ensures.small c.args.tables.now.window below, c.moves-test.true, c.requires.wide);
      d_room = omega (arith, c.moves.invariant.d_room, c.pair_shift-s.ensures.small c.args.tables.now.window below, c.moves-test.true, c.requires.wide);
      e_room = omega (arith, c.moves.invariant.e_room, c.pair_shift-t.ensures.small c.args.tables.now.window below, c.moves-test.true, c.requires.wide);
      f_room = omega (arith, c.moves.invariant.f_room, c.pair_shift-u.ensures.small c.args.tables.now.window below, c.moves-test.true, c.requires.wide);
    }

pub returns-then-p-eq0-clause-over : goal.returns-then-p-eq0-clause-over
returns-then-p-eq0-clause-over c = record {
  a = over_pair c.args.tables.now c.args.piece.now c.after-pairs.result.now c.args.from.a c.moves.a c.pair_shift-p.result c.requires.wide c.after-pairs.ensures c.moves.invariant.a (omega (arith, c.moves.invariant.a_room)) c.pair_shift-p.ensures.shift;
  b = over_pair c.args.tables.now c.args.piece.now c.after-pairs.result.now c.args.from.b c.moves.b c.pair_shift-q.result c.requires.wide c.after-pairs.ensures c.moves.invariant.b (omega (arith, c.moves.invariant.b_room)) c.pair_shift-q.ensures.shift;
  c = over_pair c.args.tables.now c.args.piece.now c.after-pairs.result.now c.args.from.c c.moves.c c.pair_shift-r.result c.requires.wide c.after-pairs.ensures c.moves.invariant.c (omega (arith, c.moves.invariant.c_room)) c.pair_shift-r.ensures.shift;
  d = over_pair c.args.tables.now c.args.piece.now c.after-pairs.result.now c.args.from.d c.moves.d c.pair_shift-s.result c.requires.wide c.after-pairs.ensures c.moves.invariant.d (omega (arith, c.moves.invariant.d_room)) c.pair_shift-s.ensures.shift;
  e = over_pair c.args.tables.now c.args.piece.now c.after-pairs.result.now c.args.from.e c.moves.e c.pair_shift-t.result c.requires.wide c.after-pairs.ensures c.moves.invariant.e (omega (arith, c.moves.invariant.e_room)) c.pair_shift-t.ensures.shift;
  f = over_pair c.args.tables.now c.args.piece.now c.after-pairs.result.now c.args.from.f c.moves.f c.pair_shift-u.result c.requires.wide c.after-pairs.ensures c.moves.invariant.f (omega (arith, c.moves.invariant.f_room)) c.pair_shift-u.ensures.shift;
}
