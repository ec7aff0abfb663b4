use Rattle.std.proofs.Common.{◌≡◌, ◌≤◌, ◌+◌, length, drop}
use Rattle.av_sigset.specs.Set.{byte_count, patterns_of}
use Rattle.av_merge.specs.Merge.{added_by}
use Rattle.av_merge.proofs.compare.amount_added.Given as goal

-- what is counted, and what is left, make up the whole
abbrev pub invariant-loop-signature : goal.invariant-loop-signature
invariant-loop-signature l =
    (l.count + length (added_by l.before (drop l.signature-index l.given)) ≡ length (added_by l.before l.given))
    × (l.bytes + byte_count (patterns_of (added_by l.before (drop l.signature-index l.given))) ≡ byte_count (patterns_of (added_by l.before l.given)))
    × (l.count ≤ l.signature-index)
