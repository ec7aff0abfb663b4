use Rattle.std.proofs.Common.{refl}
use Rattle.av_match.specs.Match.{verdict, verdict_at, verdict_to}
use Rattle.av_segments.proofs.laws.examples.Goals as goal

pub returns : goal.returns
unfolding verdict verdict_at verdict_to
returns c = record {
  edge_is_63 = refl;
  last_bytes = (refl, refl);
  least = (refl, refl, refl, refl, refl);
  across_the_cut = (refl, refl);
  beside_the_cut = (refl, refl);
  two_sets = refl;
  cuts = (refl, refl, refl);
}
