use Rattle.std.proofs.Common.{ℕ, ◌≡◌, ◌<◌, ◌^◌, drop}
use Rattle.av_match.specs.Endings.{first_of}
use Rattle.av_match.proofs.endings.last_of.Given as goal

-- behind the place none of those before is found
abbrev pub invariant-loop-ending : goal.invariant-loop-ending
invariant-loop-ending l = (e : ℕ) → e < 2 ^ 64 → l.last < e → first_of l.list e ≡ first_of (drop l.ending-index l.list) e
