use Rattle.std.proofs.Common.{rules, ◌≡◌, ◌↔◌, ◌∷◌, [], List, sym, subst}
use Rattle.av_base.specs.Among.{Among}
use Rattle.av_base.specs.declared.verdict.Verdict.{Verdict}
use Rattle.av_base.specs.declared.verdict.Verdict.TheVariants.{Clean}
use Rattle.av_match.specs.Match.{verdict}
use Rattle.av_sigset.specs.Set.{patterns_of}
use Rattle.av_findings.proofs.HitsLemmas.{clean_alone, first_among}
use Rattle.av_findings.specs.Findings.{all_verdicts}
use Rattle.av_findings.proofs.finding.all_verdicts.Goals as goal

pub returns-clause-clean : goal.returns-clause-clean
returns-clause-clean c =
    let ps = patterns_of c.args.set.now.signatures in
    let content = c.args.content.now in
    let all : c.if-is_empty.all.items ≡ all_verdicts ps content = search rules in
    subst (λ (vs : List Verdict). (vs ≡ Clean ∷ []) ↔ (verdict ps content ≡ Clean)) (sym all) (clean_alone ps content)

pub returns-clause-first : goal.returns-clause-first
returns-clause-first c =
    let ps = patterns_of c.args.set.now.signatures in
    let content = c.args.content.now in
    let all : c.if-is_empty.all.items ≡ all_verdicts ps content = search rules in
    subst (Among (verdict ps content)) (sym all) (first_among ps content)
