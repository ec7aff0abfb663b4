use Rattle.std.proofs.Common.{◌≡◌, ◌++◌, ◌∷◌, [], IsOk, subst, sym}
use Rattle.av_filter.specs.Conduct.{filter_step}
use Rattle.av_gate.proofs.BookLemmas.{kept_with_event, room_left}
use Rattle.av_gate.specs.Book.{Book, happens, replied}
use Rattle.av_gate.specs.Calls.{event_of}
use Rattle.av_gate.proofs.locked.Locked.add.Goals as goal

pub invariant_of-self-2 : goal.invariant_of-self-2
invariant_of-self-2 c =
    let s = c.self.inside in
    let e = event_of c.args.event in
    let b : Book = record { start = s.start; mode = s.mode; limits = s.limits; events = s.events.items; sent = s.sent } in
    let did = c.in-Some.ensures in
    let grown : c.push_reserved.new.self.items ≡ b.events ++ replied e (filter_step s.mounted.table s.mounted.volume e) ∷ [] = cc (c.push_reserved.ensures.items, c.reserve.ensures.items, c.new.ensures, did.1.answers, did.1.messages, did.1.note) in
    kept_with_event b s.mounted.table _ s.mounted.volume _ e c.push_reserved.new.self.items c.self.invariant
    (room_left b e (subst (λ w. IsOk (happens w e)) (sym c.self.view_is) c.requires)) did.0 did.1.table did.1.volume grown
