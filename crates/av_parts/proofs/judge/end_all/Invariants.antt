use Rattle.std.proofs.Common.{◌≡◌, ◌+◌, ◌≤◌, ◌++◌, length, vec_len, vec_capacity}
use Rattle.av_parts.specs.Judge.{ended_by_newer}
use Rattle.av_parts.proofs.judge.end_all.Given as goal

-- what was said, and what is to be said of those that are left, is what was to be said
abbrev pub invariant-contents : goal.invariant-contents
invariant-contents l =
    (l.words.items ++ ended_by_newer l.held.entries ≡ l.initial.words.items ++ ended_by_newer l.initial.held.entries)
    × (vec_len l.words + length l.held.entries ≤ vec_capacity l.words)

abbrev pub decreases-contents : goal.decreases-contents
decreases-contents l = length l.held.entries
