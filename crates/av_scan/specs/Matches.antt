-- Which signatures of a content are reported.
use Rattle.std.specs.Prelude.{ℕ, ◌+◌, ◌++◌, List, [], ◌∷◌, map}
use Rattle.av_base.specs.declared.verdict.Verdict.{Verdict}
use Rattle.av_files.specs.Findings.{NamedSet, findings_of}
use Rattle.av_files.specs.declared.finding.Finding.{Finding}
use Rattle.av_findings.specs.Findings.{all_verdicts}
use Rattle.av_scan.specs.declared.scanning.Matches.{Matches}
use Rattle.av_scan.specs.declared.scanning.Matches.TheVariants.{First, All}
use Rattle.av_sigset.specs.Set.{patterns_of}

-- the findings of verdicts under the set at this place
abbrev pub at_place : ℕ → List Verdict → List Finding
at_place place vs = map (λ v. record { set = place; verdict = v }) vs

-- the findings of all verdicts of a content under each set, with the set's place, from this place on
abbrev pub matches_from : ℕ → List NamedSet → List ℕ → List Finding
matches_from place [] content = []
matches_from place (s ∷ sets) content = at_place place (all_verdicts (patterns_of s.set.signatures) content) ++ matches_from (place + 1) sets content

-- what is reported of a content: the verdict under each set, or each signature that occurs, with the least place at which it ends
abbrev pub found_in : Matches → List NamedSet → List ℕ → List Finding
found_in First sets content = findings_of sets content
found_in All sets content = matches_from 0 sets content
