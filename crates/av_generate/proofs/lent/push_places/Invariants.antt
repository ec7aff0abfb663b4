use Rattle.std.proofs.Common.{◌≡◌, ◌++◌, ◌-◌}
use Rattle.av_generate.specs.Lent.{places_behind}
use Rattle.av_generate.proofs.lent.push_places.Given as goal

-- the places so far, and those that are left behind them, are all
abbrev pub invariant-places : goal.invariant-places
invariant-places l =
    l.places.items ++ places_behind l.last (l.to - l.last) ≡ l.initial.places.items ++ places_behind l.from (l.to - l.from)

abbrev pub decreases-places : goal.decreases-places
decreases-places l = l.to - l.last
