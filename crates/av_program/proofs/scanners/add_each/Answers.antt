use Rattle.std.proofs.Common.{arith, ◌++◌, map, take}
use Rattle.av_program.proofs.SetLemmas.{all_names, next_name, none_more}
use Rattle.av_program.proofs.scanners.add_each.Goals as goal

pub loop-name-init : goal.loop-name-init
loop-name-init g c = λ before are. none_more _ _ before _ are

pub loop-name-preserved : goal.loop-name-preserved
loop-name-preserved g c = λ before are.
    next_name _ _ before c.args.names.now c.loop-name.name-index _ _ c.loop-name-test.true
    (c.in_ok-add_one.ensures.added (before ++ map (λ n. n.now) (take c.loop-name.name-index c.args.names.now)) (c.loop-name.invariant before are))

pub returns-clause-added : goal.returns-clause-added
returns-clause-added g c = λ before are.
    all_names _ _ before c.args.names.now c.loop-name.name-index _ (omega (arith, c.loop-name-test.false, c.loop-name.auto.name-index-end)) (c.loop-name.invariant before are)
