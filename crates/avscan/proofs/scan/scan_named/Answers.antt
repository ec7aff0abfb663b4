use Rattle.avscan.proofs.ScanLemmas.{of_sets}
use Rattle.avscan.proofs.scan.scan_named.Goals as goal

pub returns-in-Ok : goal.returns-in-Ok
returns-in-Ok g c = of_sets _ c.sets_of.result _ _ _ _ c.sets_of.ensures c.in-Ok.ensures.asked c.scan_listed.ensures
