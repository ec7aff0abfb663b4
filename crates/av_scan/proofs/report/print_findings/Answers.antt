use Rattle.std.proofs.Common.{rules, ◌≡◌, ◌∷◌, ◌++◌}
use Rattle.std.proofs.KnownBytes.{Appends-trans}
use Rattle.av_scan.proofs.LineLemmas.{told_front, told_more}
use Rattle.av_scan.specs.Outcome.{finding_text, findings_text}
use Rattle.av_scan.proofs.report.print_findings.Goals as goal

pub findings-preserved : goal.findings-preserved
findings-preserved g c =
    let is : c.findings.rest.now ≡ c.in-Some.finding.now ∷ c.in-Some.after.now = search rules in
    let so = c.findings.invariant in
    let line = finding_text c.args.by.wishes c.args.by.scanners.now c.args.file.name.now c.in-Some.finding.now in (
      so.0 ++ line,
      Appends-trans (g.W.Write.contents c.args.out.now) (g.W.Write.contents c.findings.out) (g.W.Write.contents c.print_finding.new.out) so.0 line so.1 c.in-Ok.ensures,
      told_more c.args.by.wishes c.args.by.scanners.now c.args.file.name.now c.in-Some.finding.now c.findings.rest.now c.in-Some.after.now so.0
          (findings_text c.args.by.wishes c.args.by.scanners.now c.args.file.name.now c.args.file.findings.now) is so.2,
    )

pub returns-in-Err : goal.returns-in-Err
returns-in-Err g c =
    let is : c.findings.rest.now ≡ c.in-Some.finding.now ∷ c.in-Some.after.now = search rules in
    let so = c.findings.invariant in
    told_front c.args.by.wishes c.args.by.scanners.now c.args.file.name.now c.in-Some.finding.now c.findings.rest.now c.in-Some.after.now so.0
    (findings_text c.args.by.wishes c.args.by.scanners.now c.args.file.name.now c.args.file.findings.now)
    (g.W.Write.contents c.args.out.now) (g.W.Write.contents c.findings.out) (g.W.Write.contents c.print_finding.new.out) is so.2 so.1 c.in-Err.ensures
