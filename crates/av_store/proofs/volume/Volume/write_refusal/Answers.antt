use Rattle.std.proofs.Common.{sym, ◌∙◌}
use Rattle.av_store.specs.Content.{written}
use Rattle.av_store.proofs.StepLemmas.{fault_at}
use Rattle.av_store.proofs.volume.Volume.write_refusal.Goals as goal

pub returns : goal.returns
returns c =
    rw (← c.self.view_is)
    (rw (← c.get.ensures)
    (c.write_refusal.ensures.fault
    ∙ sym (fault_at _ c.get.result c.in-Some.stream.now (written c.self.inside.limits c.args.offset c.args.bytes.now) (sym c.in-Some.ensures.value))))
