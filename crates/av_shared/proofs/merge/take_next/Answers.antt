use Rattle.av_shared.proofs.StepLemmas.{filter_taken, one_taken, two_taken}
use Rattle.av_shared.proofs.merge.take_next.Goals as goal

pub returns-then-gate_goes_on-clause-taken : goal.returns-then-gate_goes_on-clause-taken
returns-then-gate_goes_on-clause-taken c =
    let s = c.args.sides in
    filter_taken s.gate.now s.one.now s.two.now c.args.taken.now c.requires (c.gate_goes_on.ensures.sound c.if-gate_goes_on.true)

pub returns-then-desk_goes_on-clause-taken : goal.returns-then-desk_goes_on-clause-taken
returns-then-desk_goes_on-clause-taken c =
    let s = c.args.sides in
    one_taken s.gate.now s.one.now s.two.now c.args.taken.now c.requires (c.desk_goes_on.ensures.sound c.if-desk_goes_on.true)

pub returns-then-desk_goes_on-2-clause-taken : goal.returns-then-desk_goes_on-2-clause-taken
returns-then-desk_goes_on-2-clause-taken c =
    let s = c.args.sides in
    two_taken s.gate.now s.one.now s.two.now c.args.taken.now c.requires (c.desk_goes_on-2.ensures.sound c.if-desk_goes_on-2.true)
