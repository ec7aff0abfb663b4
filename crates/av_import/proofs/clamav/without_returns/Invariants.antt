use Rattle.std.proofs.Common.{◌≡◌, length}
use Rattle.av_import.specs.Clamav.{without_returns}
use Rattle.av_import.proofs.clamav.without_returns.Given as goal

-- a carriage return at the end says nothing
abbrev pub invariant-returns : goal.invariant-returns
invariant-returns l = without_returns l.rest ≡ without_returns l.fn.line

abbrev pub decreases-returns : goal.decreases-returns
decreases-returns l = length l.rest
