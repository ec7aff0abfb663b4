use Rattle.std.proofs.Common.{◌≡◌, ◌++◌, length, map}
use Rattle.std.specs.List.{filter}
use Rattle.av_base.specs.Line.{pieces_of}
use Rattle.av_files.specs.Listed.{is_name}
use Rattle.av_files.proofs.listed.listed.Given as goal

-- the names so far and those of what is left are all of them
abbrev pub invariant-names : goal.invariant-names
invariant-names l = map (λ n. n.now) l.names.items ++ filter is_name (pieces_of l.end l.rest) ≡ filter is_name (pieces_of l.end l.text)

abbrev pub decreases-names : goal.decreases-names
decreases-names l = length l.rest
