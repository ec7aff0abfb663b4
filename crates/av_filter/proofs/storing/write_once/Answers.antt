use Rattle.av_filter.proofs.StoringLemmas.{fault_met}
use Rattle.av_filter.proofs.storing.write_once.Goals.{in-Ok, in-Err, in-Err-2, in-Err-Fault-Store}
use Rattle.av_filter.proofs.storing.write_once.Goals as goal

pub returns-clause-why : goal.returns-clause-why
returns-clause-why c =
    elim c.match-write.branch [
      | in-Ok w ↦ rw w.result-is tt
      | in-Err-Fault-Store w ↦
          rw w.result-is
          (fault_met c.args.filter.now _ c.args.volume.now _ c.args.stream c.args.content.now w.in-Err-Fault-Store.fault _ _ _ w.in-Err-Fault-Store.field-0-is w.in-Err-Fault-Store.field-0-0-is w.in-Err-Fault-Store.ensures.event)
      | in-Err w ↦ rw w.result-is tt
      | in-Err-2 w ↦ rw w.result-is tt
    ]
