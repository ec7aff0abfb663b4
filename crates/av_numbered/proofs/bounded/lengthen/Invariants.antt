use Rattle.std.proofs.Common.{◌≡◌, ℕ, ◌+◌, ◌-◌, vec_len, vec_capacity}
use Rattle.av_numbered.specs.Numbered.{slot_at}
use Rattle.av_numbered.proofs.bounded.lengthen.Given as goal

-- no slot has changed, and there is memory for as many as before
abbrev pub invariant-room : goal.invariant-room
invariant-room g l = record {
  same : (k : ℕ) → slot_at l.values.items k ≡ slot_at l.initial.values.items k;
  capacity : vec_capacity l.values ≡ vec_capacity l.initial.values;
}

abbrev pub decreases-room : goal.decreases-room
decreases-room g l = l.key + 1 - vec_len l.values
