use Rattle.std.proofs.Common.{◌≡◌, ◌+◌, ◌*◌, ◌<◌, length, drop}
use Rattle.av_match.specs.Ranged.{reach_find}
use Rattle.av_match.proofs.quiet.quiet_lanes.Given as goal

-- in each part the bytes left lead from its state to where all lead from its first
abbrev pub invariant-loop-i : goal.invariant-loop-i
invariant-loop-i l = record {
  p : l.p < length l.walk.stops.now;
  q : l.q < length l.walk.stops.now;
  r : l.r < length l.walk.stops.now;
  s : l.s < length l.walk.stops.now;
  t : l.t < length l.walk.stops.now;
  u : l.u < length l.walk.stops.now;
  a : reach_find l.walk.patterns.now l.walk.cells.now l.fed l.fn.from.state l.fn.from.place l.a ≡ reach_find l.walk.patterns.now l.walk.cells.now l.fed l.p (l.fn.from.place + l.i) (drop l.i l.a);
  b : reach_find l.walk.patterns.now l.walk.cells.now l.fed 0 (l.fn.from.place + l.step) l.b ≡ reach_find l.walk.patterns.now l.walk.cells.now l.fed l.q (l.fn.from.place + l.step + l.i) (drop l.i l.b);
  c : reach_find l.walk.patterns.now l.walk.cells.now l.fed 0 (l.fn.from.place + 2 * l.step) l.c ≡ reach_find l.walk.patterns.now l.walk.cells.now l.fed l.r (l.fn.from.place + 2 * l.step + l.i) (drop l.i l.c);
  d : reach_find l.walk.patterns.now l.walk.cells.now l.fed 0 (l.fn.from.place + 3 * l.step) l.d ≡ reach_find l.walk.patterns.now l.walk.cells.now l.fed l.s (l.fn.from.place + 3 * l.step + l.i) (drop l.i l.d);
  e : reach_find l.walk.patterns.now l.walk.cells.now l.fed 0 (l.fn.from.place + 4 * l.step) l.e ≡ reach_find l.walk.patterns.now l.walk.cells.now l.fed l.t (l.fn.from.place + 4 * l.step + l.i) (drop l.i l.e);
  f : reach_find l.walk.patterns.now l.walk.cells.now l.fed 0 (l.fn.from.place + 5 * l.step) l.f ≡ reach_find l.walk.patterns.now l.walk.cells.now l.fed l.u (l.fn.from.place + 5 * l.step + l.i) (drop l.i l.f);
}
