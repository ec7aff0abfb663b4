use Rattle.std.proofs.Common.{All, IsNone, vec_len}
use Rattle.av_numbered.proofs.numbered.release.Given as goal

-- the slots that are left are empty
abbrev pub invariant-slots : goal.invariant-slots
invariant-slots g l = All (λ slot. IsNone slot) l.values.items

abbrev pub decreases-slots : goal.decreases-slots
decreases-slots g l = vec_len l.values
