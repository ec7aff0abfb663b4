use Rattle.std.proofs.Common.{sym, ◌∙◌}
use Rattle.av_store.specs.Content.{cut_to}
use Rattle.av_store.proofs.StepLemmas.{fault_at}
use Rattle.av_store.proofs.volume.Volume.cut_refusal.Goals as goal

pub returns : goal.returns
returns c =
    rw (← c.self.view_is)
    (rw (← c.get.ensures)
    (c.cut_refusal.ensures.fault
    ∙ sym (fault_at _ c.get.result c.in-Some.stream.now (cut_to c.self.inside.limits c.args.length) (sym c.in-Some.ensures.value))))
