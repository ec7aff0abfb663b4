use Rattle.std.proofs.Common.{◌≡◌, ◌-◌, ◌≤◌, ◌++◌, take, drop, length, nat_eq}
use Rattle.std.specs.Set.{remove_key}
use Rattle.av_turns.proofs.clients.take_out.Given as goal

abbrev pub invariant-loop-at : goal.invariant-loop-at
invariant-loop-at l =
    (l.queue.items ≡ l.initial.queue.items) × (l.at ≤ length l.queue.items)
    × (take l.at l.initial.queue.items ++ remove_key (nat_eq l.number) (drop l.at l.initial.queue.items) ≡ remove_key (nat_eq l.number) l.initial.queue.items)

abbrev pub decreases-loop-at : goal.decreases-loop-at
decreases-loop-at l = length l.initial.queue.items - l.at
