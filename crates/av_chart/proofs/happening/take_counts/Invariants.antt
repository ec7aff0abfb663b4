use Rattle.std.proofs.Common.{◌≡◌, fold, take}
use Rattle.av_chart.specs.Story.{counted}
use Rattle.av_chart.proofs.happening.take_counts.Given as goal

-- the answers so far were counted
abbrev pub invariant-loop-one : goal.invariant-loop-one
invariant-loop-one l = l.counts ≡ fold (λ c g. counted c g.answer) l.initial.counts (take l.one-index l.given)
