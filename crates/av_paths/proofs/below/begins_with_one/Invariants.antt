use Rattle.std.proofs.Common.{ℕ, ◌<◌, slice_index_or, Bor, List}
use Rattle.av_paths.specs.Below.{BeginsWith}
use Rattle.av_paths.proofs.below.begins_with_one.Given as goal

-- the path begins with none of those before
abbrev pub invariant-folders : goal.invariant-folders
invariant-folders l = (k : ℕ) (d : Bor (List ℕ)) → k < l.place → BeginsWith l.fn.path (slice_index_or l.fn.folders k d).now → ⊥
