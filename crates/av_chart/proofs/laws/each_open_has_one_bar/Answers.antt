use Rattle.std.proofs.Common.{refl}
use Rattle.av_chart.proofs.OneBarLemmas
use Rattle.av_chart.proofs.laws.each_open_has_one_bar.Goals as goal

pub returns : goal.returns
returns c = record {
  runs = OneBarLemmas.opens_have_one_bar;
  worked = record { numbers = refl; ended = refl; waits = refl; again = refl; last = refl; next = refl; none = refl };
}
