use Rattle.std.proofs.Common.{◌≡◌, ◌<◌, ◌+◌, length, drop}
use Rattle.av_match.specs.Ranged.{reach_find}
use Rattle.av_match.proofs.ranged.walk_on.Given as goal

-- the bytes left lead from the state to where all lead from the first
abbrev pub invariant-loop-index : goal.invariant-loop-index
invariant-loop-index l = record {
  inside : l.state < length l.walk.stops.now;
  whole : reach_find l.walk.patterns.now l.walk.cells.now l.fed l.fn.from.state l.fn.from.place l.part ≡ reach_find l.walk.patterns.now l.walk.cells.now l.fed l.state (l.fn.from.place + l.index) (drop l.index l.part);
}
