use Rattle.std.proofs.Common.{◌≡◌, ◌++◌, length}
use Rattle.av_health.specs.Figures.{text_lines}
use Rattle.av_health.proofs.figure.text_of.Given as goal

-- the lines so far and those of the figures that are left are all of them
abbrev pub invariant-figures : goal.invariant-figures
invariant-figures l = l.out.items ++ text_lines l.rest ≡ text_lines l.figures

abbrev pub decreases-figures : goal.decreases-figures
decreases-figures l = length l.rest
