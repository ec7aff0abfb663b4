use Rattle.std.proofs.Common.{◌≡◌, ◌<◌, ◌-◌, length, take, drop}
use Rattle.av_match.specs.Reach.{reach}
use Rattle.av_match.specs.declared.cells.Reached.TheVariants.{Through}
use Rattle.av_match.proofs.walks.walked.Given as goal

-- the bytes so far lead from the root to the state
abbrev pub invariant-loop-place : goal.invariant-loop-place
invariant-loop-place l = record {
  inside : l.state < length l.tables.outputs.now;
  through : reach l.tables.cells.now l.tables.outputs.now 0 0 (take (l.place - l.at) (drop l.at l.piece)) ≡ Through l.state;
}
