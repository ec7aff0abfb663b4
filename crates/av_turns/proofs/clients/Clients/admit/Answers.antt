use Rattle.std.proofs.Common.{◌≡◌, ◌∙◌, ◌||◌, ap, false, None, subst, sym, refl}
use Rattle.std.specs.Ordering.{nat_cmp}
use Rattle.std.specs.BTreeMap.{insert_entry}
use Rattle.av_turns.specs.Client.{due_of, may_turn}
use Rattle.av_turns.specs.Times.{Changes, Forgets}
use Rattle.av_turns.specs.Clients.{Admits, at, entered, State}
use Rattle.av_turns.proofs.ClientsLemmas.{admit_sound, undone}
use Rattle.av_turns.proofs.clients.Clients.admit.Goals as goal

abbrev before : goal.After-enter → State
before c = record { clients = c.self.inside.clients.entries; ring = c.self.inside.ring.items; wants = c.self.inside.wants.items; shared = c.self.inside.shared; wait = c.self.inside.wait }

abbrev behind : goal.After-enter → State
behind c = record { clients = c.insert.new.self.entries; ring = c.enter.new.ring.items; wants = c.self.inside.wants.items; shared = c.self.inside.shared; wait = c.self.inside.wait }

none_old : (c : goal.After-enter) → at c.self.inside.clients.entries c.args.number ≡ None
none_old c = rw (← c.self.view_is) at c.requires.fresh

admits : (c : goal.After-enter) → Admits (before c) (behind c) c.args.number c.args.client
admits c =
    record {
      counts = c.in-Ok.ensures.entries ∙ ap (λ b. insert_entry nat_cmp c.self.inside.clients.entries c.args.number (record c.args.client { is_ready = b })) (c.may_turn-may_turn.ensures ∙ sym (ap (λ b. b || may_turn c.args.client) c.requires.bare.0));
      ring = c.enter.ensures.ring ∙ ap (λ m. entered false m c.args.number c.reserve.new.self.items) c.may_turn-may_turn.ensures ∙ ap (entered false (may_turn c.args.client) c.args.number) c.reserve.ensures.items;
      wants = refl;
      shared = refl;
      wait = refl;
    }

pub invariant_of-self-2 : goal.invariant_of-self-2
invariant_of-self-2 c =
    admit_sound (before c) (behind c) c.self.inside.due c.change.new.self c.args.number c.args.client c.self.invariant c.in-Ok.ensures.was_ordered (none_old c) c.requires.bare.0 c.requires.bare.2 c.requires.bare.1 c.requires.fit (admits c)
    (subst (λ d. Changes c.self.inside.due c.change.new.self c.args.number None d) c.due.ensures c.in_ok-change.ensures.ok)

pub invariant_of-self-in-Err : goal.invariant_of-self-in-Err
invariant_of-self-in-Err c =
    let none = rw (← c.self.view_is) at c.requires.fresh in
    rw (c.in-Err.ensures.err, c.reserve.ensures.items)
    (undone record { clients = c.self.inside.clients.entries; ring = c.self.inside.ring.items; wants = c.self.inside.wants.items; shared = c.self.inside.shared; wait = c.self.inside.wait } c.self.inside.due c.change.new.self c.forget.new.self c.args.number (due_of c.self.inside.wait c.args.client) c.self.invariant none
    (subst (λ d. Changes c.self.inside.due c.change.new.self c.args.number None d) c.due.ensures c.in_ok-change.ensures.ok)
    (subst (λ d. Forgets c.change.new.self c.forget.new.self c.args.number d) c.due-in-Err.ensures c.forget.ensures))
