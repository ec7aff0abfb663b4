use Rattle.std.proofs.Common.{◌≡◌, ◌++◌, false, length}
use Rattle.av_glob.specs.Glob.{fits, repeats}
use Rattle.av_glob.specs.Row.{moved}
use Rattle.av_glob.proofs.row.move_on.Given as goal

-- the marks so far and those that are left are all of them
abbrev pub invariant-marks : goal.invariant-marks
invariant-marks l =
    (l.is_repeated ≡ repeats l.item) × (l.next.items ++ moved l.is_repeated (fits l.item) l.before l.marks l.rest ≡ l.initial.next.items ++ moved (repeats l.item) (fits l.item) false l.row l.text)

abbrev pub decreases-marks : goal.decreases-marks
decreases-marks l = length l.marks
