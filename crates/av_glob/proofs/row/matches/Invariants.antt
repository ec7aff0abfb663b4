use Rattle.std.proofs.Common.{◌≡◌, ◌+◌, length}
use Rattle.av_glob.proofs.RowLemmas.{accepts}
use Rattle.av_glob.specs.Glob.{matches}
use Rattle.av_glob.proofs.row.matches.Given as goal

-- the items that are left decide, from the marked places on
abbrev pub invariant-items : goal.invariant-items
invariant-items l = (length l.row.items ≡ length l.text + 1) × (accepts (matches l.rest) l.row.items l.text ≡ matches l.items l.text)

abbrev pub decreases-items : goal.decreases-items
decreases-items l = length l.rest
