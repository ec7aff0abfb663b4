use Rattle.std.proofs.Common.{◌≡◌, ◌↔◌, take}
use Rattle.av_trust.proofs.signed.is_same.Given as goal

abbrev pub invariant-bytes : goal.invariant-bytes
invariant-bytes l = (l.turned ≡ 0) ↔ (take l.place l.left ≡ take l.place l.right)
