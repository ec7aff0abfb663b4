use Rattle.std.proofs.Common.{◌≡◌, ◌+◌, ◌≤◌, ◌++◌, length, vec_len, vec_capacity}
use Rattle.av_large.specs.Index.{Ascends, HasTheirs}
use Rattle.av_large.specs.State.{numbers_of, others, theirs}
use Rattle.av_large.proofs.held.take_out.Given as goal

-- the numbers that were taken, and those of the client's contents that are left, are the client's; the others are as they were
abbrev pub invariant-numbers : goal.invariant-numbers
invariant-numbers l =
    (l.dropped.items ++ numbers_of (theirs l.client l.contents.entries) ≡ l.initial.dropped.items ++ numbers_of (theirs l.client l.initial.contents.entries))
    × (others l.client l.contents.entries ≡ others l.client l.initial.contents.entries)
    × HasTheirs l.client l.contents.entries l.numbers
    × (vec_len l.dropped + length l.numbers ≤ vec_capacity l.dropped)
    × Ascends l.contents.entries

abbrev pub decreases-numbers : goal.decreases-numbers
decreases-numbers l = length l.numbers
