use Rattle.std.proofs.Common.{◌≡◌, ◌+◌, arith, subst, sym, ◌∙◌, Some, None}
use Rattle.av_context.specs.Context.{attached}
use Rattle.av_context.specs.Contexts.{at, with, attachments_to, AreCounted, PutsAt}
use Rattle.av_context.proofs.CountLemmas.{weight, weight-same, attachments-with, counted-attach, counted-attached, counted-pass, counted-same}
use Rattle.av_context.proofs.context_table.ContextTable.set_replace.Goals as goal

pub invariant_of-self-in_default-old : goal.invariant_of-self-in_default-old
invariant_of-self-in_default-old c =
    let a = c.self.inside.attachments.entries in
    let key = c.context.inside.key in
    let none : at a c.args.stream ≡ None = sym c.in_ok-old.ensures.old ∙ c.in_default-old.is in
    let puts : PutsAt c.self.inside.rows c.put.new.self key (Some (attached c.in-Some.row)) = rw c.attached.ensures at c.put.ensures in
    subst (λ m. AreCounted c.put.new.self (attachments_to m)) (sym c.in_ok-old.ensures.entries)
    (counted-same c.put.new.self (λ k. attachments_to a k + weight k key) (attachments_to (with a c.args.stream key))
    (counted-attach c.self.inside.rows c.put.new.self (attachments_to a) key c.in-Some.row c.self.invariant c.in-Some.ensures.found puts)
    (λ k. let sum = attachments-with a c.args.stream key c.insert.ensures.was_ordered None none k in omega arith))

pub pass-requires : goal.pass-requires
pass-requires c =
    let a = c.self.inside.attachments.entries in
    let key = c.context.inside.key in
    let old = c.in-Some-old.key in
    let found : at a c.args.stream ≡ Some old = sym c.in_ok-old.ensures.old ∙ c.in-Some-old.is in
    let puts : PutsAt c.self.inside.rows c.put.new.self key (Some (attached c.in-Some.row)) = rw c.attached.ensures at c.put.ensures in
    let sum = attachments-with a c.args.stream key c.insert.ensures.was_ordered (Some old) found old in
    let one = weight-same old in
    counted-attached c.put.new.self (λ k. attachments_to a k + weight k key) old
    (counted-attach c.self.inside.rows c.put.new.self (attachments_to a) key c.in-Some.row c.self.invariant c.in-Some.ensures.found puts)
    (omega arith)

pub invariant_of-self-2 : goal.invariant_of-self-2
invariant_of-self-2 c =
    let a = c.self.inside.attachments.entries in
    let key = c.context.inside.key in
    let old = c.in-Some-old.key in
    let found : at a c.args.stream ≡ Some old = sym c.in_ok-old.ensures.old ∙ c.in-Some-old.is in
    let puts : PutsAt c.self.inside.rows c.put.new.self key (Some (attached c.in-Some.row)) = rw c.attached.ensures at c.put.ensures in
    subst (λ m. AreCounted c.pass.new.self (attachments_to m)) (sym c.in_ok-old.ensures.entries)
    (counted-pass c.put.new.self c.pass.new.self (λ k. attachments_to a k + weight k key) (attachments_to (with a c.args.stream key)) old
    (counted-attach c.self.inside.rows c.put.new.self (attachments_to a) key c.in-Some.row c.self.invariant c.in-Some.ensures.found puts)
    c.pass.ensures.puts (attachments-with a c.args.stream key c.insert.ensures.was_ordered (Some old) found))
