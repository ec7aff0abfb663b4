use Rattle.std.proofs.Common.{◌≡◌, ◌++◌, drop, length}
use Rattle.av_generate.specs.Temper.{temper_drawn}
use Rattle.av_generate.proofs.temper.leanings_drawn.Given as goal

-- the leanings so far, and those of the verbs that are left, are all
abbrev pub invariant-loop-verb : goal.invariant-loop-verb
invariant-loop-verb l =
    let rest = temper_drawn (drop l.verb-index l.verbs) l.draws in
    ((l.leanings.items ++ rest.0, rest.1) ≡ temper_drawn l.verbs l.initial.draws) × (length l.leanings.items ≡ l.verb-index)
