use Rattle.std.proofs.Common.{◌≡◌, ◌≤◌, ◌+◌, ◌*◌, drop}
use Rattle.av_generate.specs.Verb.{weight_of_all}
use Rattle.av_generate.proofs.temper.weight_of_all.Given as goal

-- the weight so far, and that of the leanings that are left, is that of all
abbrev pub invariant-loop-leaning : goal.invariant-loop-leaning
invariant-loop-leaning l =
    (l.all + weight_of_all l.profile l.sight (drop l.leaning-index l.leanings) ≡ weight_of_all l.profile l.sight l.leanings)
    × (l.all ≤ 6120 * l.leaning-index)
