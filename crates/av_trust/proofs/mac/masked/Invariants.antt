use Rattle.std.proofs.Common.{◌≡◌, length, take}
use Rattle.av_trust.specs.Hmac.{masked}
use Rattle.av_trust.proofs.mac.masked.Given as goal

abbrev pub invariant-bytes : goal.invariant-bytes
invariant-bytes l = (length l.turned ≡ 64) × (take l.place l.turned ≡ masked l.mask (take l.place l.block))
