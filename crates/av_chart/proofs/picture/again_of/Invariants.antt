use Rattle.std.proofs.Common.{◌≡◌, take}
use Rattle.av_chart.specs.Number.{capped}
use Rattle.av_chart.specs.Picture.{again_of}
use Rattle.av_chart.proofs.picture.again_of.Given as goal

-- the arrivals so far were counted
abbrev pub invariant-loop-sent : goal.invariant-loop-sent
invariant-loop-sent l = l.again ≡ capped (again_of (take l.sent-index l.messages))
