use Rattle.std.proofs.Common.{◌≡◌, rules}
use Rattle.av_desk.proofs.OutgoingLemmas.{one_more}
use Rattle.av_desk.proofs.locked.outgoing.all_messages.Goals as goal
use Rattle.std.specs.List.{AppendsClones}

pub loop-entry-preserved : goal.loop-entry-preserved
loop-entry-preserved c =
    let x = c.entry-item.result in
    let copies : AppendsClones (λ v w. w ≡ v) c.loop-entry.messages.items c.extend_with_clones.new.self.items x.messages = search rules in
    one_more c.args.entries.now c.loop-entry.entry-index x _ _ c.loop-entry-test.true c.entry-item.is c.loop-entry.invariant copies
