use Rattle.std.proofs.Common.{rules, ◌≤◌}
use Rattle.av_scan.proofs.StretchLemmas.{found_whole}
use Rattle.av_scan.proofs.stretches.found_at_once.Goals as goal

pub returns : goal.returns
returns g c =
    let fits : c.in_ok-size.size ≤ c.args.most = search rules in
    found_whole (λ v. v.items) (g.F.Read.remaining c.args.file.now) c.args.scanners.now c.in_ok-size.size c.args.most c.in_ok-whole.field-0 c.findings-2.result c.ok.result c.ok.ensures.value
    fits c.in_ok-whole.ensures.found c.in_ok-whole.ensures.length c.in_ok-size.ensures c.findings-2.ensures
