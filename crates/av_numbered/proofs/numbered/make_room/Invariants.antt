use Rattle.std.proofs.Common.{◌≡◌, ℕ, ◌+◌, ◌-◌, vec_len}
use Rattle.av_numbered.specs.Numbered.{slot_at}
use Rattle.av_numbered.proofs.numbered.make_room.Given as goal

-- no slot has changed
abbrev pub invariant-room : goal.invariant-room
invariant-room g l = (k : ℕ) → slot_at l.values.items k ≡ slot_at l.initial.values.items k

abbrev pub decreases-room : goal.decreases-room
decreases-room g l = l.key + 1 - vec_len l.values
