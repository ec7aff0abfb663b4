use Rattle.std.proofs.Common.{◌≡◌, ◌∙◌, sym}
use Rattle.av_chart.proofs.LifeLemmas.{bar_within, ended_indexed, ends_absent, ends_found}
use Rattle.av_chart.specs.Life.{lives_of, ends}
use Rattle.av_chart.specs.Living.{place_at}
use Rattle.av_chart.proofs.life.Lives.end.Goals as goal

pub finish-requires : goal.finish-requires
finish-requires c =
    bar_within c.self.inside.bars.items (place_at c.self.inside.living) c.args.port c.args.id c.in-Some.index c.self.invariant (sym c.take.ensures.place ∙ c.in-Some.is)

pub invariant_of-self : goal.invariant_of-self
invariant_of-self c =
    let bars = lives_of c.self.inside.bars.items in
    let found = sym c.take.ensures.place ∙ c.in-Some.is in
    let items : lives_of c.finish.new.bars.items ≡ ends c.args.port c.args.id c.args.end bars =
    ends_found bars (place_at c.self.inside.living) c.args.port c.args.id c.in-Some.index c.args.end (lives_of c.finish.new.bars.items) c.self.invariant found c.finish.ensures
    in
    rw items (ended_indexed bars (place_at c.self.inside.living) (place_at c.take.new.self) c.args.port c.args.id c.args.end c.self.invariant c.take.ensures.rest)

pub returns-in-Some : goal.returns-in-Some
returns-in-Some c =
    let found = sym c.take.ensures.place ∙ c.in-Some.is in
    rw (← c.self.view_is)
    (ends_found (lives_of c.self.inside.bars.items) (place_at c.self.inside.living) c.args.port c.args.id c.in-Some.index c.args.end (lives_of c.finish.new.bars.items) c.self.invariant found c.finish.ensures)

pub returns-in_default : goal.returns-in_default
returns-in_default c =
    let absent = sym c.take.ensures.place ∙ c.in_default.is in
    rw (← c.self.view_is) (ends_absent (lives_of c.self.inside.bars.items) (place_at c.self.inside.living) c.args.port c.args.id c.args.end c.self.invariant absent)
