use Rattle.std.proofs.Common.{◌≡◌, ◌<◌, ◌≤◌, ◌-◌, length, drop}
use Rattle.av_match.specs.Ranged.{reach_find}
use Rattle.av_match.proofs.ranged.reach_ranged.Given as goal

-- the bytes left lead from the state to where all lead from the first
abbrev pub invariant-pieces : goal.invariant-pieces
invariant-pieces l = record {
  within : l.start ≤ length l.chunk;
  inside : l.state < length l.walk.stops.now;
  whole : reach_find l.walk.patterns.now l.walk.cells.now l.fed l.fn.from 0 l.chunk ≡ reach_find l.walk.patterns.now l.walk.cells.now l.fed l.state l.start (drop l.start l.chunk);
}

abbrev pub decreases-pieces : goal.decreases-pieces
decreases-pieces l = length l.chunk - l.start
