use Rattle.std.proofs.Common.{arith, rules}
use Rattle.av_quarantine.proofs.NamingLemmas.{moved_to}
use Rattle.av_quarantine.proofs.moving.move_into.Goals as goal

pub returns-in-Ok-clause-moved : goal.returns-in-Ok-clause-moved
returns-in-Ok-clause-moved g c =
    let disk = c.carried_out.new.disk in
    moved_to c.args.folder.now c.in-Some.name.now c.args.file.path.now disk.folder.now disk.name.now disk.step c.in-Ok.field-0 _ (c.in-Ok.ensures.well (omega arith)) c.in-Ok.ensures.place c.in-Ok.ensures.ends (search rules)
