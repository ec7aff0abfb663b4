use Rattle.std.proofs.Common.{◌∙◌, ap, sym}
use Rattle.av_status.specs.Tally.{concluded}
use Rattle.av_files.proofs.TallyLemmas.{found_scanned}
use Rattle.av_files.proofs.scan.print_scanned.Goals as goal

pub returns-clause-found : goal.returns-clause-found
returns-clause-found g c =
    λ found. found_scanned c.args.wishes c.args.scanned.now (ap (concluded c.args.wishes) (sym c.tally_of.ensures) ∙ sym c.conclude.ensures ∙ found)
