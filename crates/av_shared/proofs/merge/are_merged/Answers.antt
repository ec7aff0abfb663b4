use Rattle.std.proofs.Common.{sym, ◌∙◌}
use Rattle.av_shared.proofs.StuckLemmas.{stuck_none_left}
use Rattle.av_shared.proofs.merge.are_merged.Goals as goal

pub returns-then-not-take_any-clause-complete : goal.returns-then-not-take_any-clause-complete
returns-then-not-take_any-clause-complete c = λ all.
    let s = c.args.sides in
    sym c.events-test.true ∙ c.are_all_taken.ensures.1 (stuck_none_left s.gate.now s.one.now s.two.now c.events.taken all (c.take_any.ensures.stuck c.if-not-take_any.true))
