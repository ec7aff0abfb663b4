use Rattle.std.proofs.Common.{◌≡◌, drop}
use Rattle.av_match.specs.Endings.{first_of}
use Rattle.av_match.proofs.endings.first_of.Given as goal

-- none of those before begins in its span
abbrev pub invariant-loop-ending : goal.invariant-loop-ending
invariant-loop-ending l = first_of (drop l.ending-index l.list) l.end_at ≡ first_of l.list l.end_at
