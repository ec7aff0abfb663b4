use Rattle.std.proofs.Common.{◌≡◌, ◌++◌, length, map, reverse}
use Rattle.std.specs.List.{filter}
use Rattle.av_files.specs.Walk.{is_entry}
use Rattle.av_files.proofs.walk.turned.Given as goal

-- the names so far and those of what is left are all of them
abbrev pub invariant-names : goal.invariant-names
invariant-names l =
    map (λ n. n.items) l.names.items ++ filter is_entry (reverse (map (λ n. n.now) l.sorted.items))
    ≡ filter is_entry (reverse (map (λ n. n.now) l.initial.sorted.items))

abbrev pub decreases-names : goal.decreases-names
decreases-names l = length l.sorted.items
