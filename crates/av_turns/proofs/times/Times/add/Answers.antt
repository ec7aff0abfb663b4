use Rattle.std.proofs.Common.{nat_eq, ◌&&◌}
use Rattle.av_turns.proofs.TimesLemmas.{adds, same_entry}
use Rattle.av_turns.proofs.times.Times.add.Goals as goal

pub returns-clause-ok : goal.returns-clause-ok
returns-clause-ok c = λ q time.
    rw (c.in-Some.is, ← c.self.view_is) (adds _ _ _ (nat_eq q c.args.number && nat_eq c.in-Some.time time) (c.in-Ok.ensures.updates.0 (time, q)) (same_entry c.in-Some.time c.args.number time q))
