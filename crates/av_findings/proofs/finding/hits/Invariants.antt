use Rattle.std.proofs.Common.{◌≡◌, ◌++◌, drop}
use Rattle.av_findings.specs.Findings.{hits_from}
use Rattle.av_sigset.specs.Set.{patterns_of}
use Rattle.av_findings.proofs.finding.hits.Given as goal

-- the hits so far, and those of the rest
abbrev pub invariant-loop-index : goal.invariant-loop-index
invariant-loop-index l = l.hits.items ++ hits_from l.index (patterns_of (drop l.index l.signatures)) l.content ≡ hits_from 0 (patterns_of l.signatures) l.content
