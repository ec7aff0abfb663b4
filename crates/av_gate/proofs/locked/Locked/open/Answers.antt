use Rattle.std.proofs.Common.{◌≡◌, ◌+◌, ◌∙◌, ap, arith, subst, sym}
use Rattle.av_filter.specs.declared.note.Note.TheVariants.{Submitted}
use Rattle.av_gate.proofs.OpenLemmas.{told_number}
use Rattle.av_gate.specs.Book.{Book, state_of}
use Rattle.av_store.specs.Store.{Store}
use Rattle.av_gate.proofs.locked.Locked.open.Goals as goal

pub returns-in-Ok-clause-ticket : goal.returns-in-Ok-clause-ticket
returns-in-Ok-clause-ticket c =
    let s = c.self.inside in
    let b : Book = record { start = s.start; mode = s.mode; limits = s.limits; events = s.events.items; sent = s.sent } in
    let same : c.owe.new.self ≡ b = c.owe.ensures.same ∙ sym c.self.view_is in
    let note = subst (λ (w : Book). c.in-Ok.settled.note ≡ Submitted ((state_of w).volume.opens + 1)) same (told_number _ _ _ _ _ c.in-Ok.ensures.event) in
    let opens : c.volume-2.result.now.opens ≡ (state_of b).volume.opens = ap (λ (v : Store). v.opens) (c.volume-2.ensures ∙ c.self.invariant.volume) in
    let number : (state_of b).volume.opens + 1 ≡ c.in_ok-ticket.ticket.open_id = omega (arith, opens, c.in_ok-ticket.ensures.ticket.0) in
    (note ∙ ap Submitted number, c.in_ok-ticket.ensures.ticket.1)
