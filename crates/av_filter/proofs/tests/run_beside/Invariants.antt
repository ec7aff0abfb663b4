use Rattle.av_filter.specs.Fit.{Fits}
use Rattle.av_filter.proofs.tests.run_beside.Given as goal

abbrev pub invariant-loop-i : goal.invariant-loop-i
invariant-loop-i l = Fits l.filter l.volume
