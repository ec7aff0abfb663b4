use Rattle.std.proofs.Common.{◌≡◌, ◌≤◌, take}
use Rattle.av_chart.specs.Picture.{lost_of}
use Rattle.av_chart.proofs.picture.lost_of.Given as goal

-- those so far were counted
abbrev pub invariant-loop-sent : goal.invariant-loop-sent
invariant-loop-sent l = (l.count ≡ lost_of (take l.sent-index l.messages)) × (l.count ≤ l.sent-index)
