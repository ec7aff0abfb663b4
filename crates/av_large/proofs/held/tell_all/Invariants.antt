use Rattle.std.proofs.Common.{◌≡◌, ◌+◌, ◌≤◌, ◌++◌, length, vec_len, vec_capacity}
use Rattle.av_large.specs.Calls.{all_lost}
use Rattle.av_large.proofs.held.tell_all.Given as goal

-- what was told, and what is to be told of those that are left, is what was to be told
abbrev pub invariant-contents : goal.invariant-contents
invariant-contents l =
    (l.told.items ++ all_lost l.contents.entries ≡ l.initial.told.items ++ all_lost l.initial.contents.entries)
    × (vec_len l.told + length l.contents.entries ≤ vec_capacity l.told)

abbrev pub decreases-contents : goal.decreases-contents
decreases-contents l = length l.contents.entries
