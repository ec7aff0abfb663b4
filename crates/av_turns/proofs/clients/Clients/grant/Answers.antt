use Rattle.std.proofs.Common.{arith, ◌≡◌, ◌≤◌, ◌+◌, ◌||◌, ◌∷◌, ◌∙◌, ap, drop, Some, subst, sym, refl}
use Rattle.std.specs.Ordering.{nat_cmp}
use Rattle.std.specs.BTreeMap.{is_at}
use Rattle.std.specs.Map.{set_value}
use Rattle.std.proofs.lemmas.Grind.{common_steps}
use Rattle.av_turns.specs.declared.client.Client.{Client}
use Rattle.av_turns.specs.Client.{granted, IsFit, may_turn}
use Rattle.av_turns.specs.Clients.{at, entered, GrantsOne, marked, Puts, State}
use Rattle.av_turns.proofs.ClientsLemmas.{granted_wants, put_sound, unchanged}
use Rattle.av_turns.proofs.clients.Clients.grant.Goals as goal

abbrev before : goal.After-pop_front → State
before c = record { clients = c.self.inside.clients.entries; ring = c.self.inside.ring.items; wants = c.self.inside.wants.items; shared = c.self.inside.shared; wait = c.self.inside.wait }

abbrev behind : goal.After-pop_front → State
behind c = record { clients = c.set.new.clients.entries; ring = c.enter-is_ready.new.ring.items; wants = c.pop_front.new.self.items; shared = c.self.inside.shared + c.in-Some-copied.client.want; wait = c.self.inside.wait }

some_old : (c : goal.After-pop_front) → at c.self.inside.clients.entries c.in-Some.number ≡ Some c.in-Some-copied.client
some_old c = grind (arith, common_steps)

front : (c : goal.After-pop_front) → c.self.inside.wants.items ≡ c.in-Some.number ∷ drop 1 c.self.inside.wants.items
front c = grind (arith, common_steps)

counts : (c : goal.After-pop_front) (k : Client) → c.granted-granted.result ≡ k → c.set.new.clients.entries ≡ set_value (is_at (nat_cmp c.in-Some.number)) c.self.inside.clients.entries (marked k)
counts c k e = c.set.ensures.is ∙ ap (λ b. set_value (is_at (nat_cmp c.in-Some.number)) c.self.inside.clients.entries (record c.granted-granted.result { is_ready = b })) (c.enter-is_ready.ensures.is ∙ ap (λ m. c.granted-granted.result.is_ready || m) c.may_turn.ensures)
    ∙ ap (λ j. set_value (is_at (nat_cmp c.in-Some.number)) c.self.inside.clients.entries (marked j)) e

ring : (c : goal.After-pop_front) (k : Client) → c.granted-granted.result ≡ k → c.enter-is_ready.new.ring.items ≡ entered k.is_ready (may_turn k) c.in-Some.number c.self.inside.ring.items
ring c k e = c.enter-is_ready.ensures.ring ∙ ap (λ m. entered c.granted-granted.result.is_ready m c.in-Some.number c.reserve.new.self.items) c.may_turn.ensures
    ∙ ap (entered c.granted-granted.result.is_ready (may_turn c.granted-granted.result) c.in-Some.number) c.reserve.ensures.items
    ∙ ap (λ j. entered j.is_ready (may_turn j) c.in-Some.number c.self.inside.ring.items) e

popped : (c : goal.After-pop_front) → c.pop_front.new.self.items ≡ drop 1 c.self.inside.wants.items
popped c = grind (arith, common_steps, c.pop_front.ensures.items)

puts : (c : goal.After-pop_front) → Puts (before c) (behind c) c.in-Some.number c.in-Some-copied.client (granted c.in-Some-copied.client)
puts c =
    record {
      counts = counts c (granted c.in-Some-copied.client) c.granted-granted.ensures.value;
      ring = ring c (granted c.in-Some-copied.client) c.granted-granted.ensures.value;
      wants = popped c ∙ sym (granted_wants (before c) c.self.inside.due c.in-Some.number c.in-Some-copied.client c.self.invariant (front c) (some_old c));
      shared = omega arith;
      wait = refl;
    }

fit : (c : goal.After-pop_front) → IsFit (granted c.in-Some-copied.client)
fit c = subst (λ k. IsFit k) c.granted-granted.ensures.value c.granted-granted.ensures.fit

bounded : (c : goal.After-pop_front) → c.self.inside.shared + c.in-Some-copied.client.want ≤ 67108864
bounded c = omega (arith, c.if-client-self.false, c.self.invariant.bounded)

pub invariant_of-self-2 : goal.invariant_of-self-2
invariant_of-self-2 c =
    put_sound (before c) (behind c) c.self.inside.due c.self.inside.due c.in-Some.number c.in-Some-copied.client (granted c.in-Some-copied.client) c.self.invariant (some_old c) refl (bounded c) (fit c) (puts c)
    (unchanged (before c) c.self.inside.due c.in-Some.number c.in-Some-copied.client c.self.invariant (some_old c))

pub returns-clause-given : goal.returns-clause-given
returns-clause-given c =
    λ _. subst (λ t. GrantsOne t (behind c)) c.self.view_is
    (c.in-Some.number, c.in-Some-copied.client, record { front = front c; there = some_old c; room = bounded c; puts = puts c })
