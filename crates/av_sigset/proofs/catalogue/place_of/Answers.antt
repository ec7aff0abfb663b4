use Rattle.std.proofs.Common.{◌+◌, ◌-◌, ◌/◌, arith}
use Rattle.av_sigset.proofs.CatalogueLemmas.{less_upto}
use Rattle.av_sigset.proofs.catalogue.place_of.Goals as goal

pub halves-preserved-then-found-version-2 : goal.halves-preserved-then-found-version-2
halves-preserved-then-found-version-2 c = record {
  within = c.halves.invariant.within;
  less = λ i lt within. less_upto c.args.sets.now c.index-sets-middle.result c.args.version (c.halves.low + (c.halves.high - c.halves.low) / 2) i c.requires (omega (arith, c.halves.invariant.within)) c.index-sets-middle.is
      (omega (arith, c.get-found.ensures, c.version.ensures.version)) lt;
  greater = c.halves.invariant.greater;
}
