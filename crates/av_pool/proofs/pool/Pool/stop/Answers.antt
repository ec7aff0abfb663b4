use Rattle.std.proofs.Common.{rules, subst, ◌++◌}
use Rattle.std.specs.List.{AllByRecursion as Each}
use Rattle.av_desk.specs.Lent.{FitsItsWork}
use Rattle.av_pool.proofs.Moves.{merges}
use Rattle.av_pool.proofs.Picking.{each_run}
use Rattle.av_pool.proofs.Sending.{times_even}
use Rattle.av_pool.specs.Pool.{AreRunsOf, GiverState}
use Rattle.av_pool.proofs.pool.Pool.stop.Goals as goal

pub absorb-requires-clause-rule : goal.absorb-requires-clause-rule
absorb-requires-clause-rule g c = merges _ _ _ _ (search rules)

pub absorb-requires-2-clause-rule : goal.absorb-requires-2-clause-rule
absorb-requires-2-clause-rule g c = merges _ _ _ _ (search rules)

pub returns-clause-all : goal.returns-clause-all
returns-clause-all g c =
    let runs : AreRunsOf c.args.giver.given (c.args.taker.taken ++ c.into_stopped.result.dones.items) = search rules in
    times_even _ _ runs

pub returns-clause-each : goal.returns-clause-each
returns-clause-each g c =
    let runs : AreRunsOf c.args.giver.given (c.args.taker.taken ++ c.into_stopped.result.dones.items) = search rules in
    let fits : Each FitsItsWork c.args.giver.given = subst (λ (s : GiverState). Each FitsItsWork s.given) c.giver.view_is c.giver.invariant.3 in
    each_run c.scan_goes_on.ensures _ _ fits runs
