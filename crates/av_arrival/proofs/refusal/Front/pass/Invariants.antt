use Rattle.std.proofs.Common.{◌≡◌, ◌++◌, length, take}
use Rattle.av_arrival.proofs.refusal.Front.pass.Given as goal

-- the first bytes so far and those that are left are the first of all
abbrev pub invariant-bytes : goal.invariant-bytes
invariant-bytes l = take 14 (l.self ++ l.rest) ≡ take 14 (l.initial.self ++ l.bytes)

abbrev pub decreases-bytes : goal.decreases-bytes
decreases-bytes l = length l.rest
