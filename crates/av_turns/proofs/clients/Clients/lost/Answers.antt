use Rattle.std.proofs.Common.{arith, ◌≡◌, ℕ, ◌∙◌, ap, cond, nat_eq, None, Some, subst, refl}
use Rattle.std.proofs.lemmas.Grind.{common_steps}
use Rattle.av_turns.specs.Clients.{at, IsGone, State}
use Rattle.av_turns.specs.Times.{Forgets}
use Rattle.av_turns.proofs.ClientsLemmas.{gone_sound, same_test}
use Rattle.av_turns.proofs.clients.Clients.lost.Goals as goal

abbrev before : goal.After-take_out-2 → State
before c = record { clients = c.self.inside.clients.entries; ring = c.self.inside.ring.items; wants = c.self.inside.wants.items; shared = c.self.inside.shared; wait = c.self.inside.wait }

abbrev behind : goal.After-take_out-2 → State
behind c = record { clients = c.remove.new.self.entries; ring = c.take_out.new.queue.items; wants = c.take_out-2.new.queue.items; shared = c.saturating_sub-self-inside.result; wait = c.self.inside.wait }

some_old : (c : goal.After-take_out-2) → at c.self.inside.clients.entries c.args.number ≡ Some c.in-Some.client
some_old c = grind (arith, common_steps)

gone : (c : goal.After-take_out-2) → IsGone (before c) (behind c) c.args.number
gone c = record { counts = c.remove.ensures.entries; ring = c.take_out.ensures; wants = c.take_out-2.ensures; wait = refl }

removed : (c : goal.After-take_out-2) (q : ℕ) → at c.remove.new.self.entries q ≡ cond (nat_eq q c.args.number) None (at c.self.inside.clients.entries q)
removed c q = c.remove.ensures.updates.0 q ∙ ap (λ b. cond b None (at c.self.inside.clients.entries q)) (same_test c.args.number q)

pub invariant_of-self : goal.invariant_of-self
invariant_of-self c =
    gone_sound (before c) (behind c) c.self.inside.due c.forget.new.self c.args.number c.in-Some.client c.self.invariant (some_old c) (removed c) (gone c) (omega (arith, c.saturating_sub-self-inside.ensures))
    (subst (λ d. Forgets c.self.inside.due c.forget.new.self c.args.number d) c.due.ensures c.forget.ensures)
