use Rattle.std.proofs.Common.{sym, ap, ◌∙◌}
use Rattle.std.specs.Option.{option_map}
use Rattle.av_context.specs.Contexts.{at}
use Rattle.av_filter_table.proofs.ContextLemmas.{at-known, state-known}
use Rattle.av_filter_table.proofs.stream_contexts.StreamContexts.state_of.Goals as goal

pub returns : goal.returns
returns c =
    let t = c.self.inside.table in
    rw (← c.self.view_is) (c.state_of.ensures ∙ (state-known t (at t.attachments c.args.stream) ∙ sym (ap (option_map (λ m. m.state)) (at-known t c.self.invariant c.args.stream))))
