use Rattle.std.proofs.Common.{◌≤◌, ◌-◌, length}
use Rattle.av_match.specs.Passed.{ArePassed}
use Rattle.av_match.proofs.leaps.leaped_by.Given as goal

-- the piece is passed over so far
abbrev pub invariant-leaps : goal.invariant-leaps
invariant-leaps l = record {
  within : l.place ≤ length l.piece;
  passed : ArePassed l.tables l.piece l.from l.place;
}

abbrev pub decreases-leaps : goal.decreases-leaps
decreases-leaps l = length l.piece - l.place
