use Rattle.std.proofs.Common.{◌+◌, ◌≤◌, ◌-◌, length, take, drop, arith}
use Rattle.av_match.proofs.LaneLemmas.{piece_next, after_through, inside_words, part_bytes}
use Rattle.av_match.proofs.pieces.through_pieces.Goals as goal

pub pieces-preserved : goal.pieces-preserved
pieces-preserved c =
    let auto = c.requires.set.1.automaton in
    let end = c.pieces.start + c.min.result in
    let up : c.pieces.start ≤ end = omega (arith, c.min.ensures) in
    let room : end ≤ length c.args.chunk.now = omega (arith, c.min.ensures) in
    let inside = inside_words c.requires.set.0 c.args.tables.now.cells.now c.args.tables.now.outputs.now auto c.pieces.state c.pieces.invariant.inside in
    let after = after_through c.requires.set.0 c.args.tables.now.cells.now c.args.tables.now.outputs.now auto (take (end - c.pieces.start) (drop c.pieces.start c.args.chunk.now))
    (part_bytes c.args.chunk.now c.pieces.start (end - c.pieces.start) (λ k l. (c.type_inv.chunk k).fits) (omega arith)) c.pieces.state inside c.pieces.invariant.silent c.in-Some.next c.in-Some.ensures in
    record {
      within = room;
      inside = after.0;
      silent = after.1;
      whole = piece_next c.args.tables.now.cells.now c.args.tables.now.outputs.now c.args.chunk.now c.args.from.state c.args.from.place c.pieces.state c.in-Some.next c.pieces.start end up room c.pieces.invariant.whole c.in-Some.ensures;
    }
