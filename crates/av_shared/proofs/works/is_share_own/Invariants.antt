use Rattle.std.proofs.Common.{◌≡◌, ◌<◌, ◌/◌, ◌%◌, ℕ}
use Rattle.av_shared.specs.Works.{IsOwnAt}
use Rattle.av_shared.proofs.works.is_share_own.Given as goal

abbrev pub invariant-events : goal.invariant-events
invariant-events l = (k : ℕ) → k < l.at → k / 16 % l.share.of ≡ l.share.number → IsOwnAt l.audit k
