use Rattle.std.proofs.Common.{◌≡◌, ◌++◌, take, drop}
use Rattle.av_generate.specs.Lent.{without_place}
use Rattle.av_generate.proofs.lent.leave_out_place.Given as goal

-- nothing was left out, and the place is none of those that were passed
abbrev pub invariant-loop-index : goal.invariant-loop-index
invariant-loop-index l =
    (l.places.items ≡ l.initial.places.items)
    × (take l.index l.places.items ++ without_place l.back (drop l.index l.places.items) ≡ without_place l.back l.places.items)
