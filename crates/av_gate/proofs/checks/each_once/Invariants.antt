use Rattle.std.proofs.Common.{◌≡◌, ◌<◌, ℕ}
use Rattle.av_gate.specs.Claims.{times}
use Rattle.av_gate.proofs.checks.each_once.Given as goal

abbrev pub invariant-loop-place : goal.invariant-loop-place
invariant-loop-place l = (place : ℕ) → place < l.place → times place l.seats ≡ 1
