use Rattle.std.proofs.Common.{◌≡◌, subst, sym, ◌∙◌, Some}
use Rattle.av_context.specs.Contexts.{at, without, attachments_to, AreCounted}
use Rattle.av_context.proofs.CountLemmas.{attachments-without, counted-detach}
use Rattle.av_context.proofs.context_table.ContextTable.delete.Goals as goal

pub invariant_of-self : goal.invariant_of-self
invariant_of-self c =
    let a = c.self.inside.attachments.entries in
    let found : at a c.args.stream ≡ Some c.in-Some.key = rw (← c.self.view_is) at (sym c.attached_key.ensures.value ∙ c.in-Some.is) in
    subst (λ m. AreCounted c.detach.new.self (attachments_to m)) (sym c.remove.ensures.entries)
    (counted-detach c.self.inside.rows c.detach.new.self (attachments_to a) (attachments_to (without a c.args.stream)) c.in-Some.key c.self.invariant c.detach.ensures (attachments-without a c.args.stream c.in-Some.key found))
