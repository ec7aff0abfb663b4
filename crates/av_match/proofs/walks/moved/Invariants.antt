use Rattle.std.proofs.Common.{◌≤◌, ◌-◌, length}
use Rattle.av_match.specs.Passed.{ArePassed}
use Rattle.av_match.proofs.walks.moved.Given as goal

-- the bytes so far are passed over
abbrev pub invariant-moves : goal.invariant-moves
invariant-moves l = record {
  within : l.place ≤ length l.piece;
  passed : ArePassed l.tables l.piece l.from l.place;
}

abbrev pub decreases-moves : goal.decreases-moves
decreases-moves l = l.end - l.place
