use Rattle.std.proofs.Common.{◌≡◌, ◌∙◌, ap}
use Rattle.av_chart.proofs.LifeLemmas.{all_ended, bar_within, ended_indexed, ends_by_all, ends_found}
use Rattle.av_chart.specs.Life.{lives_of, ends, ends_at}
use Rattle.av_chart.specs.Living.{place_at}
use Rattle.av_chart.proofs.life.Lives.end_at.Goals as goal

pub finish-requires : goal.finish-requires
finish-requires c =
    bar_within c.living.self-inside.bars.items (place_at c.living.self-inside.living) c.args.port c.in-Some.field-0-0 c.in-Some.index c.living.invariant.0 c.in-Some.ensures.place

pub living-preserved : goal.living-preserved
living-preserved c =
    let bars = lives_of c.living.self-inside.bars.items in
    let id = c.in-Some.field-0-0 in
    let items : lives_of c.finish.new.bars.items ≡ ends c.args.port id c.args.end bars =
    ends_found bars (place_at c.living.self-inside.living) c.args.port id c.in-Some.index c.args.end (lives_of c.finish.new.bars.items) c.living.invariant.0 c.in-Some.ensures.place c.finish.ensures
    in (
      rw items (ended_indexed bars (place_at c.living.self-inside.living) (place_at c.take_first.new.self) c.args.port id c.args.end c.living.invariant.0 c.in-Some.ensures.rest),
      ap (ends_at c.args.port c.args.end) items ∙ ends_by_all c.args.port id c.args.end bars ∙ c.living.invariant.1,
    )

pub returns : goal.returns
returns c =
    rw (← c.self.view_is)
    (all_ended (lives_of c.living.self-inside.bars.items) (place_at c.living.self-inside.living) c.args.port c.args.end c.living.invariant.0 c.in_default.ensures.none ∙ c.living.invariant.1)
