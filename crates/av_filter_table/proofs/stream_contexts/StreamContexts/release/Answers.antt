use Rattle.av_filter_table.proofs.ContextLemmas.{is-held, loosens}
use Rattle.av_filter_table.proofs.stream_contexts.StreamContexts.release.Goals as goal

pub release-requires : goal.release-requires
release-requires c = is-held c.self.inside.table c.args.stream c.args.context c.self.invariant (rw (c.self.view_is) c.requires)

pub invariant_of-self : goal.invariant_of-self
invariant_of-self c = (loosens c.self.inside.table c.release.new.self c.args.stream c.args.context c.self.invariant (rw (c.self.view_is) c.requires) c.release.ensures).once c.len-is_sound.ensures.sound

pub returns : goal.returns
returns c = rw (← c.self.view_is) (loosens c.self.inside.table c.release.new.self c.args.stream c.args.context c.self.invariant (rw (c.self.view_is) c.requires) c.release.ensures).puts
