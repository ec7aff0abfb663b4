use Rattle.std.proofs.Common.{rules}
use Rattle.av_match.proofs.PassedLemmas.{reach_more}
use Rattle.av_match.proofs.walks.enter.Goals as goal

pub loop-place-preserved : goal.loop-place-preserved
loop-place-preserved c = record {
  inside = search rules;
  through = reach_more c.args.tables.now.cells.now c.args.tables.now.outputs.now c.args.piece.now c.args.from c.loop-place.state c.loop-place.place c.loop-place.invariant.through (search rules) (search rules);
}
