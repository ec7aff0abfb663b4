use Rattle.std.proofs.Common.{arith}
use Rattle.av_trust.proofs.BitLemmas.{same_all, same_so_far}
use Rattle.av_trust.proofs.signed.is_same.Goals as goal

pub bytes-preserved : goal.bytes-preserved
bytes-preserved c = same_so_far _ _ c.bytes.place _ (grind arith) (grind arith) c.bytes.invariant

pub returns : goal.returns
returns c = same_all _ _ c.bytes.place _ (grind arith) (grind arith) c.bytes.invariant
