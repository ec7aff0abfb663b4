use Rattle.std.proofs.Common.{ℕ, ◌++◌, List, map, take}
use Rattle.av_program.specs.Sets.{AreOf}
use Rattle.av_program.proofs.scanners.add_each.Given as goal

-- the sets of the names so far were added
abbrev pub invariant-loop-name : goal.invariant-loop-name
invariant-loop-name g l =
    (before : List (List ℕ)) → AreOf l.reading.trust l.reading.empty_sets before l.initial.scanners
    → AreOf l.reading.trust l.reading.empty_sets (before ++ map (λ n. n.now) (take l.name-index l.names)) l.scanners
