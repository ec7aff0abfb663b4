use Rattle.std.proofs.Common.{◌<◌, IsSome, sym, subst}
use Rattle.av_base.specs.Answers.{AnswersAtOnce}
use Rattle.av_context.specs.Calls.{get}
use Rattle.av_context.specs.Contexts.{at}
use Rattle.av_numbered.specs.Numbered.{IsAscending}
use Rattle.av_filter_table.specs.StreamContexts.{held_of}
use Rattle.av_filter_table.proofs.ContextLemmas.{known-ascends, holds, still-held, is-given}
use Rattle.av_filter_table.proofs.stream_contexts.StreamContexts.share.Goals as goal

pub unreachable-requires : goal.unreachable-requires
unreachable-requires c =
    let t = c.self.inside.table in
    let refused = subst (λ r. AnswersAtOnce t c.get.new.self r (get t c.args.stream)) c.in_default.is c.get.ensures in
    is-given t c.args.stream c.in_default.field-0 c.self.invariant (subst (λ m. IsSome (at m c.args.stream)) (sym c.self.view_is) c.requires.there) (subst (λ m. held_of (at m c.args.stream) < 9223372036854775808) (sym c.self.view_is) c.requires.few) refused.0

pub set_state-requires : goal.set_state-requires
set_state-requires c = still-held c.self.inside.table c.get.new.self c.args.stream c.in-Ok.shared c.self.invariant c.in-Ok.ensures

pub invariant_of-self : goal.invariant_of-self
invariant_of-self c = (holds c.self.inside.table c.get.new.self c.set_state.new.self c.args.stream c.in-Ok.shared c.args.state c.self.invariant c.in-Ok.ensures c.set_state.ensures).once c.len-is_sound.ensures.sound

pub returns-clause-puts : goal.returns-clause-puts
returns-clause-puts c = rw (← c.self.view_is) (holds c.self.inside.table c.get.new.self c.set_state.new.self c.args.stream c.in-Ok.shared c.args.state c.self.invariant c.in-Ok.ensures c.set_state.ensures).puts

pub returns-clause-ascend : goal.returns-clause-ascend
returns-clause-ascend c = subst IsAscending c.self.view_is (known-ascends c.self.inside.table c.self.invariant)

pub returns-clause-same : goal.returns-clause-same
returns-clause-same c = rw (← c.self.view_is) (holds c.self.inside.table c.get.new.self c.set_state.new.self c.args.stream c.in-Ok.shared c.args.state c.self.invariant c.in-Ok.ensures c.set_state.ensures).same
