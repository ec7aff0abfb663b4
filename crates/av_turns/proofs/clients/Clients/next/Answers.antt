use Rattle.std.proofs.Common.{arith, ◌≡◌, ◌++◌, ◌∷◌, [], ◌∙◌, drop, Some, false, subst, sym}
use Rattle.std.proofs.lemmas.Grind.{common_steps}
use Rattle.av_turns.specs.Client.{may_turn}
use Rattle.av_turns.specs.Clients.{at, IsSound, State}
use Rattle.av_turns.proofs.ClientsLemmas.{left_sound, turn_sound}
use Rattle.av_turns.proofs.clients.Clients.next.Goals as goal

pub invariant_of-self : goal.invariant_of-self
invariant_of-self c =
    let s : State = record { clients = c.self.inside.clients.entries; ring = c.self.inside.ring.items; wants = c.self.inside.wants.items; shared = c.self.inside.shared; wait = c.self.inside.wait } in
    let front : s.ring ≡ c.in-Some.number ∷ drop 1 s.ring = grind (arith, common_steps) in
    let turned : c.rotate_left.new.self.items ≡ drop 1 s.ring ++ c.in-Some.number ∷ [] = grind (arith, common_steps, front, c.rotate_left.ensures.items) in
    subst (λ r. IsSound (record s { ring = r }) c.self.inside.due) (sym turned) (turn_sound s c.self.inside.due c.in-Some.number c.self.invariant front)

pub invariant_of-self-2 : goal.invariant_of-self-2
invariant_of-self-2 c =
    let s : State = record { clients = c.self.inside.clients.entries; ring = c.self.inside.ring.items; wants = c.self.inside.wants.items; shared = c.self.inside.shared; wait = c.self.inside.wait } in
    let front : s.ring ≡ c.in-Some.number ∷ drop 1 s.ring = grind (arith, common_steps) in
    let left : c.pop_front.new.self.items ≡ drop 1 s.ring = grind (arith, common_steps, c.pop_front.ensures.items) in
    let some : at s.clients c.in-Some.number ≡ Some c.in-Some-copied.client = grind (arith, common_steps) in
    let never : may_turn c.in-Some-copied.client ≡ false = sym c.may_turn.ensures ∙ c.if-may_turn.false in
    subst (λ r. IsSound (record s { clients = c.set.new.clients.entries; ring = r }) c.self.inside.due) (sym left)
    (subst (λ e. IsSound (record s { clients = e; ring = drop 1 s.ring }) c.self.inside.due) (sym c.set.ensures.is) (left_sound s c.self.inside.due c.in-Some.number c.in-Some-copied.client c.self.invariant front some never))
