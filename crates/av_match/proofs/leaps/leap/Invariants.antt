use Rattle.std.proofs.Common.{◌+◌, ◌-◌, ◌≤◌, length}
use Rattle.av_match.specs.Passed.{AreOver}
use Rattle.av_match.proofs.leaps.leap.Given as goal

-- the window has come to the place
abbrev pub invariant-leaps : goal.invariant-leaps
invariant-leaps l = record {
  over : AreOver l.tables l.piece l.from l.place;
  within : l.place + l.tables.window ≤ length l.piece;
  on : l.from ≤ l.place;
}

abbrev pub decreases-leaps : goal.decreases-leaps
decreases-leaps l = length l.piece - l.place
