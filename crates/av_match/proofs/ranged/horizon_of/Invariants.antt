use Rattle.std.proofs.Common.{ℕ, ◌≡◌, ◌<◌, ◌&&◌, drop, nat_lt}
use Rattle.av_match.specs.Scanning.{is_past}
use Rattle.av_match.proofs.ranged.horizon_of.Given as goal

-- what ends is behind the horizon so far and past the patterns left
abbrev pub invariant-loop-pattern : goal.invariant-loop-pattern
invariant-loop-pattern l = (e : ℕ) → 0 < e → is_past l.patterns e ≡ (nat_lt l.horizon e && is_past (drop l.pattern-index l.patterns) e)
