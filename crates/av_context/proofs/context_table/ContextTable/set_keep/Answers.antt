use Rattle.std.proofs.Common.{◌≡◌, ◌+◌, arith, subst, sym, ◌∙◌, Some, None}
use Rattle.av_context.specs.Context.{attached}
use Rattle.av_context.specs.Contexts.{at, with, attachments_to, AreCounted, PutsAt}
use Rattle.av_context.proofs.CountLemmas.{weight, attachments-with, counted-attach, counted-same}
use Rattle.av_context.proofs.context_table.ContextTable.set_keep.Goals as goal

pub invariant_of-self-2 : goal.invariant_of-self-2
invariant_of-self-2 c =
    let a = c.self.inside.attachments.entries in
    let key = c.context.inside.key in
    let none : at a c.args.stream ≡ None = rw (← c.self.view_is) at (sym c.attached_key.ensures.value ∙ c.in_default.is) in
    let puts : PutsAt c.self.inside.rows c.put.new.self key (Some (attached c.in-Some-referable.row)) = rw c.attached.ensures at c.put.ensures in
    subst (λ m. AreCounted c.put.new.self (attachments_to m)) (sym c.in_ok-insert.ensures.entries)
    (counted-same c.put.new.self (λ k. attachments_to a k + weight k key) (attachments_to (with a c.args.stream key))
    (counted-attach c.self.inside.rows c.put.new.self (attachments_to a) key c.in-Some-referable.row c.self.invariant c.in-Some-referable.ensures.found puts)
    (λ k. let sum = attachments-with a c.args.stream key c.insert.ensures.was_ordered None none k in omega arith))
