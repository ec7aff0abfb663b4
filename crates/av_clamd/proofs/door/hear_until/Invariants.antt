use Rattle.std.proofs.Common.{◌≡◌, ◌≤◌, ◌-◌, length, take, []}
use Rattle.av_clamd.specs.Door.{heard_of}
use Rattle.av_clamd.proofs.door.hear_until.Given as goal

-- nothing has come so far
abbrev pub invariant-bytes : goal.invariant-bytes
invariant-bytes l = (l.taken ≤ length l.fn.piece) × (heard_of l.fn.sending (take l.taken l.fn.piece) l.fn.door ≡ (l.door, []))

abbrev pub decreases-bytes : goal.decreases-bytes
decreases-bytes l = length l.fn.piece - l.taken
