use Rattle.std.proofs.Common.{ap, subst, ◌∙◌}
use Rattle.av_context.specs.Calls.{release}
use Rattle.av_numbered.specs.Numbered.{IsAscending}
use Rattle.av_filter_table.proofs.ContextLemmas.{known-ascends, is-held, held-in_state, gives_back}
use Rattle.av_filter_table.proofs.stream_contexts.StreamContexts.give_back.Goals as goal

pub set_state-requires : goal.set_state-requires
set_state-requires c = is-held c.self.inside.table c.args.stream c.args.context c.self.invariant (rw (c.self.view_is) c.requires)

pub release-requires : goal.release-requires
release-requires c =
    rw (c.set_state.ensures)
    (held-in_state c.self.inside.table c.args.context c.args.state c.self.invariant.sound.contexts_ascend (is-held c.self.inside.table c.args.stream c.args.context c.self.invariant (rw (c.self.view_is) c.requires)))

pub invariant_of-self : goal.invariant_of-self
invariant_of-self c =
    (gives_back c.self.inside.table c.release.new.self c.args.stream c.args.context c.args.state c.self.invariant (rw (c.self.view_is) c.requires)
    (c.release.ensures ∙ ap (λ t. release t c.args.context) c.set_state.ensures)).once c.len-is_sound.ensures.sound

pub returns-clause-ascend : goal.returns-clause-ascend
returns-clause-ascend c = subst IsAscending c.self.view_is (known-ascends c.self.inside.table c.self.invariant)

pub returns-clause-puts : goal.returns-clause-puts
returns-clause-puts c =
    rw (← c.self.view_is)
    (gives_back c.self.inside.table c.release.new.self c.args.stream c.args.context c.args.state c.self.invariant (rw (c.self.view_is) c.requires)
    (c.release.ensures ∙ ap (λ t. release t c.args.context) c.set_state.ensures)).puts
