use Rattle.std.proofs.Common.{◌≡◌, ◌++◌, take, drop}
use Rattle.av_json.specs.Shown.{shown}
use Rattle.av_json.proofs.shown.first_hidden.Given as goal

-- the bytes so far stay
abbrev pub invariant-loop-at : goal.invariant-loop-at
invariant-loop-at l = shown l.text ≡ take l.at l.text ++ shown (drop l.at l.text)
