use Rattle.std.proofs.Common.{◌≡◌, drop, map}
use Rattle.av_match.specs.Search.{find_at}
use Rattle.av_match.proofs.plain.first_find.Given as goal

-- none of the patterns before is found there
abbrev pub invariant-loop-index : goal.invariant-loop-index
invariant-loop-index g l = find_at l.index (map g.P.AsPattern.pattern (drop l.index l.patterns)) l.bytes l.place l.end_at ≡ find_at 0 (map g.P.AsPattern.pattern l.patterns) l.bytes l.place l.end_at
