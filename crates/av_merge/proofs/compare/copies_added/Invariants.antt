use Rattle.std.proofs.Common.{◌≡◌, ◌++◌, drop}
use Rattle.av_merge.specs.Merge.{added_by}
use Rattle.av_merge.proofs.compare.copies_added.Given as goal

-- the copies, and what is left, make up the whole
abbrev pub invariant-loop-signature : goal.invariant-loop-signature
invariant-loop-signature l = l.copies.items ++ added_by l.before (drop l.signature-index l.given) ≡ added_by l.before l.given
