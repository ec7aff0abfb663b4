use Rattle.std.specs.Arc.{arc_value}
use Rattle.av_scan.specs.Told.{AreFindings}
use Rattle.av_scan.proofs.on.scan_on.Given as goal

abbrev pub ghosts-scan_truly : goal.ghosts-scan_truly
ghosts-scan_truly g a = record { is_true = AreFindings a.scanning.now.matches a.scanning.now.max_size (g.O.Opening.is_of a.scanning.now.files) g.F.Read.remaining (arc_value a.scanners.now) }
