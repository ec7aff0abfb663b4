use Rattle.std.proofs.Common.{arith}
use Rattle.std.proofs.lemmas.List.Folds.{length-flat_map-take}
use Rattle.av_desk.proofs.locked.outgoing.quiet_ones.Goals as goal
use Rattle.av_service.specs.Audit.{ServiceEntry}

-- the messages of this event are among those of all
pub returns-then-not-is_empty-clause-stopped : goal.returns-then-not-is_empty-clause-stopped
returns-then-not-is_empty-clause-stopped c =
    λ within none.
    let some = length-flat_map-take (λ (x : ServiceEntry). x.messages) c.args.entries.now c.loop-entry.entry-index c.entry-item.result c.loop-entry-test.true in
    grind (arith, some, none, c.entry-item.is, c.if-not-is_empty.true, c.is_empty.ensures, c.messages.ensures)
