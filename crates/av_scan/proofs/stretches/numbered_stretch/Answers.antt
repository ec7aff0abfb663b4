use Rattle.std.proofs.Common.{arith}
use Rattle.av_scan.proofs.StretchLemmas.{ordered}
use Rattle.av_scan.proofs.stretches.numbered_stretch.Goals as goal

pub stretch_of-requires-clause-order : goal.stretch_of-requires-clause-order
stretch_of-requires-clause-order g c = omega (arith, c.place.ensures, c.place-2.ensures, ordered c.args.cut.size c.args.cut.count c.args.number c.requires.number)
