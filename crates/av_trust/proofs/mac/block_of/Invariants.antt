use Rattle.std.proofs.Common.{◌≡◌, ◌-◌, ◌++◌, take, replicate}
use Rattle.av_trust.proofs.mac.block_of.Given as goal

abbrev pub invariant-bytes : goal.invariant-bytes
invariant-bytes l = l.block ≡ take l.place l.key ++ replicate (64 - l.place) 0
