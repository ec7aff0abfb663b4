use Rattle.std.proofs.Common.{sym, ◌∙◌}
use Rattle.av_context.specs.declared.context_fault.ContextFault.{ContextFault}
use Rattle.av_filter_table.proofs.ContextLemmas.{held-one, still-attached, forgets, ok_is, err_not_ok, is-held}
use Rattle.av_filter_table.proofs.stream_contexts.StreamContexts.forget.Goals as goal

pub release-requires : goal.release-requires
release-requires c = is-held c.self.inside.table c.args.stream c.args.context c.self.invariant (held-one c.self.inside.table c.args.stream c.args.context c.self.invariant (rw (c.self.view_is) c.requires))

pub unreachable-requires : goal.unreachable-requires
unreachable-requires c =
    err_not_ok _ _ (sym (still-attached c.self.inside.table c.release.new.self c.args.stream c.args.context c.self.invariant (rw (c.self.view_is) c.requires) c.release.ensures) ∙ c.in-Err.ensures.0)

pub invariant_of-self : goal.invariant_of-self
invariant_of-self c = (forgets c.self.inside.table c.delete.new.self c.args.stream c.args.context c.self.invariant (rw (c.self.view_is) c.requires)
    (ok_is {F = ContextFault} c.delete.new.self _ (sym c.in-Ok.ensures ∙ still-attached c.self.inside.table c.release.new.self c.args.stream c.args.context c.self.invariant (rw (c.self.view_is) c.requires) c.release.ensures))).once c.len-is_sound.ensures.sound

pub returns : goal.returns
returns c = rw (← c.self.view_is) (forgets c.self.inside.table c.delete.new.self c.args.stream c.args.context c.self.invariant (rw (c.self.view_is) c.requires)
    (ok_is {F = ContextFault} c.delete.new.self _ (sym c.in-Ok.ensures ∙ still-attached c.self.inside.table c.release.new.self c.args.stream c.args.context c.self.invariant (rw (c.self.view_is) c.requires) c.release.ensures))).puts
