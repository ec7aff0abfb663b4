use Rattle.std.proofs.Common.{◌+◌, ◌-◌, ◌*◌, slice_index, rules}
use Rattle.av_match.proofs.PassedLemmas.{walk_more}
use Rattle.av_match.proofs.walks.walked.Goals as goal

pub returns-then-tables-state-clause-walked : goal.returns-then-tables-state-clause-walked
returns-then-tables-state-clause-walked c = record {
  count = c.loop-place.place + 1 - c.args.at;
  state = slice_index c.args.tables.now.cells.now (256 * c.loop-place.state + slice_index c.args.piece.now c.loop-place.place);
  room = search rules;
  through = walk_more c.args.tables.now.cells.now c.args.tables.now.outputs.now c.args.piece.now c.args.at c.loop-place.place c.loop-place.state (search rules) (search rules) c.loop-place.invariant.through (search rules);
  short = search rules;
}

pub loop-place-preserved : goal.loop-place-preserved
loop-place-preserved c = record {
  inside = search rules;
  through = walk_more c.args.tables.now.cells.now c.args.tables.now.outputs.now c.args.piece.now c.args.at c.loop-place.place c.loop-place.state (search rules) (search rules) c.loop-place.invariant.through (search rules);
}
