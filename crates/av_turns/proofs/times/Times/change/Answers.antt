use Rattle.std.proofs.Common.{arith, ◌&&◌, nat_eq, false, true, ◌≡◌}
use Rattle.std.specs.Option.{option_eq}
use Rattle.av_turns.specs.Times.{is_time}
use Rattle.av_turns.proofs.TimesLemmas.{apart, changes, same, stays}
use Rattle.av_turns.proofs.times.Times.change.Goals as goal

pub returns-then-ne-clause-ok : goal.returns-then-ne-clause-ok
returns-then-ne-clause-ok c = λ q time.
    let differ : option_eq nat_eq c.args.old c.args.new ≡ false = grind (arith, c.if-ne.true, c.ne.ensures) in
    changes (nat_eq q c.args.number && is_time c.args.new time) (nat_eq q c.args.number && is_time c.args.old time) _ _ _ (c.in_ok-add.ensures.ok q time) (c.forget.ensures q time) (apart (nat_eq q c.args.number) c.args.old c.args.new time differ)

pub returns-else-ne-clause-ok : goal.returns-else-ne-clause-ok
returns-else-ne-clause-ok c = λ q time.
    let alike : option_eq nat_eq c.args.old c.args.new ≡ true = grind (arith, c.if-ne.false, c.ne.ensures) in
    rw (same c.args.old c.args.new alike) (stays (nat_eq q c.args.number && is_time c.args.new time) _ _ (c.in_ok-add.ensures.ok q time))
