use Rattle.std.proofs.Common.{◌+◌, arith, length-drop}
use Rattle.av_base.proofs.DeviceLemmas.{Appends-kept, Appends-more, prefix_take}
use Rattle.av_base.proofs.recorded.write_text.Goals as goal

pub writes-preserved : goal.writes-preserved
writes-preserved g c =
    (Appends-more _ _ _ c.args.text.now c.writes.at c.in-Ok.count c.writes.invariant.0 c.in-Ok.ensures.bytes, grind (arith, c.in-Ok.ensures.bound, length-drop))

pub returns-in_default-clause-writes : goal.returns-in_default-clause-writes
returns-in_default-clause-writes g c = prefix_take _ _ _ c.writes.at (Appends-kept _ _ _ _ c.writes.invariant.0 c.in_default.ensures.bytes)

pub returns-then-count-eq0-clause-writes : goal.returns-then-count-eq0-clause-writes
returns-then-count-eq0-clause-writes g c =
    prefix_take _ _ _ (c.writes.at + c.in-Ok.count)
    (Appends-more _ _ _ c.args.text.now c.writes.at c.in-Ok.count c.writes.invariant.0 c.in-Ok.ensures.bytes)
