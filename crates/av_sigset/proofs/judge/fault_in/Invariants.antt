use Rattle.std.proofs.Common.{length}
use Rattle.av_sigset.proofs.JudgeLemmas.{IsJudged}
use Rattle.av_sigset.proofs.judge.fault_in.Given as goal

-- the lines above are judged
abbrev pub invariant-lines : goal.invariant-lines
invariant-lines l = IsJudged l.format l.lines l.rest l.count l.total

abbrev pub decreases-lines : goal.decreases-lines
decreases-lines l = length l.rest
