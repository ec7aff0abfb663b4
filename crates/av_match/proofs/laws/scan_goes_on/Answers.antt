use Rattle.std.proofs.Common.{refl}
use Rattle.av_match.specs.Scanning.{fitting, run}
use Rattle.av_match.proofs.ScanLemmas.{scan_fed, scan_hit}
use Rattle.av_match.proofs.laws.scan_goes_on.Goals as goal

pub returns : goal.returns
returns c = λ set bytes content chunk s solid was room.
    let t = run set.patterns s (fitting s chunk) in
    let fed = scan_fed set bytes content chunk s t was room refl in
    (fed, scan_hit set bytes _ t fed solid)
