use Rattle.std.proofs.Common.{◌≡◌, ◌<◌, length, drop}
use Rattle.av_match.specs.Reach.{reach}
use Rattle.av_match.proofs.reach.reach_of.Given as goal

-- the bytes left lead from the state to where all lead from the first
abbrev pub invariant-loop-place : goal.invariant-loop-place
invariant-loop-place l = record {
  inside : l.state < length l.tables.outputs.now;
  whole : reach l.tables.cells.now l.tables.outputs.now l.fn.from.state l.fn.from.place (drop l.fn.from.place l.chunk) ≡ reach l.tables.cells.now l.tables.outputs.now l.state l.place (drop l.place l.chunk);
}
