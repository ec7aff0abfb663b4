use Rattle.std.proofs.Common.{◌≡◌, ◌≤◌, take}
use Rattle.av_engines.specs.Watching.{later}
use Rattle.av_engines.proofs.tally.count_later.Given as goal

-- the later ones so far were counted
abbrev pub invariant-answers : goal.invariant-answers
invariant-answers l = (l.count ≡ later l.first (take l.answer-index l.answers)) × (l.count ≤ l.answer-index)
