use Rattle.std.proofs.Common.{◌≡◌, drop}
use Rattle.av_generate.specs.Verb.{verb_at}
use Rattle.av_generate.proofs.temper.verb_at.Given as goal

-- what is left of the place stands among the leanings that are left
abbrev pub invariant-loop-leaning : goal.invariant-loop-leaning
invariant-loop-leaning l =
    verb_at l.profile l.sight (drop l.leaning-index l.leanings) l.left ≡ verb_at l.profile l.sight l.leanings l.place
