use Rattle.std.proofs.Common.{◌≡◌, drop}
use Rattle.av_merge.specs.Merge.{clash_from}
use Rattle.av_merge.proofs.merger.Merger.clash.Given as goal

-- none so far clashes
abbrev pub invariant-loop-index : goal.invariant-loop-index
invariant-loop-index l = clash_from l.self l.index (drop l.index l.given) ≡ clash_from l.self 0 l.given
