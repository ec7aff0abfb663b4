use Rattle.std.proofs.Common.{Some, sym, ap, subst, ◌∙◌}
use Rattle.av_context.specs.Contexts.{IsHeld, IsSound, PutsAt}
use Rattle.av_context.specs.Calls.{attach, set_keep, release}
use Rattle.av_context.specs.declared.context_ref.Set.TheVariants.{Attached}
use Rattle.av_filter_table.specs.StreamContexts.{known_of, AreAttached}
use Rattle.av_filter_table.proofs.ContextLemmas.{refused-same, same-kept, made}
use Rattle.av_filter_table.proofs.stream_contexts.attach.Goals as goal

pub set_keep-requires : goal.set_keep-requires
set_keep-requires c = (made c.args.table.now c.allocate.new.self c.args.stream c.in_ok-context.context c.args.state c.requires.once c.requires.none c.in_ok-context.ensures.free c.in_ok-context.ensures.ok).held

pub release-requires : goal.release-requires
release-requires c = subst (λ t. IsHeld t c.in_ok-context.context) (sym (refused-same c.allocate.new.self c.set_keep.new.self c.in-Err.field-0 (set_keep c.allocate.new.self c.args.stream c.in_ok-context.context) c.in-Err.ensures.answer)) (made c.args.table.now c.allocate.new.self c.args.stream c.in_ok-context.context c.args.state c.requires.once c.requires.none c.in_ok-context.ensures.free c.in_ok-context.ensures.ok).held

pub returns-in-Ok-Attached-clause-ok : goal.returns-in-Ok-Attached-clause-ok
returns-in-Ok-Attached-clause-ok c =
    subst (λ t. PutsAt (known_of c.args.table.now) (known_of t) c.args.stream (Some (record { key = c.in_ok-context.context; state = c.args.state; held = 1 }))) (same-kept Attached c.in-Ok-Attached.field-0 (attach c.allocate.new.self c.args.stream c.in_ok-context.context) c.set_keep.new.self (set_keep c.allocate.new.self c.args.stream c.in_ok-context.context) (made c.args.table.now c.allocate.new.self c.args.stream c.in_ok-context.context c.args.state c.requires.once c.requires.none c.in_ok-context.ensures.free c.in_ok-context.ensures.ok).keeps c.in-Ok-Attached.ensures.answer) (made c.args.table.now c.allocate.new.self c.args.stream c.in_ok-context.context c.args.state c.requires.once c.requires.none c.in_ok-context.ensures.free c.in_ok-context.ensures.ok).puts

pub returns-in-Ok-Attached-clause-once : goal.returns-in-Ok-Attached-clause-once
returns-in-Ok-Attached-clause-once c =
    let is = (same-kept Attached c.in-Ok-Attached.field-0 (attach c.allocate.new.self c.args.stream c.in_ok-context.context) c.set_keep.new.self (set_keep c.allocate.new.self c.args.stream c.in_ok-context.context) (made c.args.table.now c.allocate.new.self c.args.stream c.in_ok-context.context c.args.state c.requires.once c.requires.none c.in_ok-context.ensures.free c.in_ok-context.ensures.ok).keeps c.in-Ok-Attached.ensures.answer) in
    subst AreAttached is ((made c.args.table.now c.allocate.new.self c.args.stream c.in_ok-context.context c.args.state c.requires.once c.requires.none c.in_ok-context.ensures.free c.in_ok-context.ensures.ok).once (subst IsSound (sym is) c.len-is_sound.ensures.sound))

pub returns-in-Err-clause-once : goal.returns-in-Err-clause-once
returns-in-Err-clause-once c =
    subst AreAttached (sym (c.release.ensures ∙ (ap (λ t. release t c.in_ok-context.context) (refused-same c.allocate.new.self c.set_keep.new.self c.in-Err.field-0 (set_keep c.allocate.new.self c.args.stream c.in_ok-context.context) c.in-Err.ensures.answer) ∙ (made c.args.table.now c.allocate.new.self c.args.stream c.in_ok-context.context c.args.state c.requires.once c.requires.none c.in_ok-context.ensures.free c.in_ok-context.ensures.ok).back))) c.requires.once

pub returns-in-Err-clause-err : goal.returns-in-Err-clause-err
returns-in-Err-clause-err c = c.release.ensures ∙ (ap (λ t. release t c.in_ok-context.context) (refused-same c.allocate.new.self c.set_keep.new.self c.in-Err.field-0 (set_keep c.allocate.new.self c.args.stream c.in_ok-context.context) c.in-Err.ensures.answer) ∙ (made c.args.table.now c.allocate.new.self c.args.stream c.in_ok-context.context c.args.state c.requires.once c.requires.none c.in_ok-context.ensures.free c.in_ok-context.ensures.ok).back)
