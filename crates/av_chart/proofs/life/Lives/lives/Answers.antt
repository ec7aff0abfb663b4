use Rattle.std.proofs.Common.{◌∙◌}
use Rattle.av_chart.proofs.LifeLemmas.{lives_is}
use Rattle.av_chart.specs.Life.{lives_of}
use Rattle.av_chart.specs.Living.{place_at}
use Rattle.av_chart.proofs.life.Lives.lives.Goals as goal

pub returns : goal.returns
returns c = rw (← c.self.view_is) (c.has.ensures ∙ lives_is (lives_of c.self.inside.bars.items) (place_at c.self.inside.living) c.args.port c.args.id c.self.invariant)
