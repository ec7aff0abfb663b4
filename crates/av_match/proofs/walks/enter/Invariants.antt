use Rattle.std.proofs.Common.{◌≡◌, ◌<◌, length, take}
use Rattle.av_match.specs.Reach.{reach}
use Rattle.av_match.specs.declared.cells.Reached.TheVariants.{Through}
use Rattle.av_match.proofs.walks.enter.Given as goal

-- the bytes so far lead to the state
abbrev pub invariant-loop-place : goal.invariant-loop-place
invariant-loop-place l = record {
  inside : l.state < length l.tables.outputs.now;
  through : reach l.tables.cells.now l.tables.outputs.now l.from 0 (take l.place l.piece) ≡ Through l.state;
}
