use Rattle.std.proofs.Common.{◌≡◌, false, length}
use Rattle.av_glob.specs.Row.{last_so}
use Rattle.av_glob.proofs.row.is_last_marked.Given as goal

abbrev pub invariant-marks : goal.invariant-marks
invariant-marks l = last_so l.last l.marks ≡ last_so false l.row

abbrev pub decreases-marks : goal.decreases-marks
decreases-marks l = length l.marks
