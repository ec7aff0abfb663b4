use Rattle.av_filter_table.proofs.DetachLemmas.{detaches}
use Rattle.av_filter_table.proofs.stream_contexts.StreamContexts.detach.Goals as goal

pub invariant_of-self : goal.invariant_of-self
invariant_of-self c =
    (detaches c.self.inside.table c.delete-none_is_gone_already.new.self c.args.stream c.delete-none_is_gone_already.result c.self.invariant (rw (c.self.view_is) c.requires) c.delete-none_is_gone_already.ensures).once c.len-is_sound.ensures.sound

pub returns : goal.returns
returns c = rw (← c.self.view_is) (detaches c.self.inside.table c.delete-none_is_gone_already.new.self c.args.stream c.delete-none_is_gone_already.result c.self.invariant (rw (c.self.view_is) c.requires) c.delete-none_is_gone_already.ensures).puts
