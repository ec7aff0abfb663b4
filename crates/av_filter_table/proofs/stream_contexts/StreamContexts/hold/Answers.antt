use Rattle.std.proofs.Common.{◌≡◌, Err, IfOk, IfSome, Some, None, ap, subst, ◌∙◌}
use Rattle.av_context.specs.Contexts.{PutsAt}
use Rattle.av_numbered.specs.Numbered.{IsAscending}
use Rattle.av_filter_table.specs.StreamContexts.{Known, known_of}
use Rattle.av_filter_table.proofs.ContextLemmas.{known-ascends, holds, still-held, never-spent, not-found, none-known, if_ok_any}
use Rattle.av_filter_table.proofs.stream_contexts.StreamContexts.hold.Goals as goal

pub set_state-requires : goal.set_state-requires
set_state-requires c = still-held c.self.inside.table c.get.new.self c.args.stream c.in-Ok.context c.self.invariant c.in-Ok.ensures

pub invariant_of-self : goal.invariant_of-self
invariant_of-self c = (holds c.self.inside.table c.get.new.self c.set_state.new.self c.args.stream c.in-Ok.context c.args.state c.self.invariant c.in-Ok.ensures c.set_state.ensures).once c.len-is_sound.ensures.sound

pub unreachable-requires : goal.unreachable-requires
unreachable-requires c = never-spent c.self.inside.table c.args.stream c.self.invariant (rw (c.self.view_is) c.requires) (c.in-Err-RefsSpent.ensures.0 ∙ ap Err c.in-Err-RefsSpent.field-0-is)

pub returns-in-Ok-clause-ok : goal.returns-in-Ok-clause-ok
returns-in-Ok-clause-ok c = rw (← c.self.view_is) (holds c.self.inside.table c.get.new.self c.set_state.new.self c.args.stream c.in-Ok.context c.args.state c.self.invariant c.in-Ok.ensures c.set_state.ensures).puts

pub returns-in-Ok-clause-same : goal.returns-in-Ok-clause-same
returns-in-Ok-clause-same c = rw (← c.self.view_is) (holds c.self.inside.table c.get.new.self c.set_state.new.self c.args.stream c.in-Ok.context c.args.state c.self.invariant c.in-Ok.ensures c.set_state.ensures).same

pub returns-in-Err-NotFound-clause-ok : goal.returns-in-Err-NotFound-clause-ok
returns-in-Err-NotFound-clause-ok c =
    let t = c.self.inside.table in
    let none = not-found t c.args.stream (c.in-Err-NotFound.ensures.0 ∙ ap Err c.in-Err-NotFound.field-0-is) in
    rw (← c.self.view_is, none-known t c.args.stream c.self.invariant none)
    (subst (λ u. IfOk c.attach.result (λ context. PutsAt (known_of u) (known_of c.attach.new.table) c.args.stream (Some (record { key = context; state = c.args.state; held = 1 })))) c.in-Err-NotFound.ensures.1 c.attach.ensures.ok)

pub returns-in-Err-NotFound-clause-same : goal.returns-in-Err-NotFound-clause-same
returns-in-Err-NotFound-clause-same c =
    let t = c.self.inside.table in
    let none = not-found t c.args.stream (c.in-Err-NotFound.ensures.0 ∙ ap Err c.in-Err-NotFound.field-0-is) in
    rw (← c.self.view_is, none-known t c.args.stream c.self.invariant none) (if_ok_any (λ context. IfSome {T = Known} None (λ m. m.key ≡ context)) c.attach.result (λ x. tt))

pub returns-in-Ok-clause-ascend : goal.returns-in-Ok-clause-ascend
returns-in-Ok-clause-ascend c = subst IsAscending c.self.view_is (known-ascends c.self.inside.table c.self.invariant)

pub returns-in-Err-NotFound-clause-ascend : goal.returns-in-Err-NotFound-clause-ascend
returns-in-Err-NotFound-clause-ascend c = subst IsAscending c.self.view_is (known-ascends c.self.inside.table c.self.invariant)
