use Rattle.std.proofs.Common.{arith, length, ◌≡◌, ◌≤◌, ◌||◌, ◌∙◌, ap, Some, IfSome, subst, refl}
use Rattle.std.specs.Ordering.{nat_cmp}
use Rattle.std.specs.BTreeMap.{is_at}
use Rattle.std.specs.Map.{set_value}
use Rattle.std.proofs.lemmas.Grind.{common_steps}
use Rattle.av_turns.specs.Client.{may_turn, settled}
use Rattle.av_turns.specs.Clients.{at, entered, Puts, State, waiting}
use Rattle.av_turns.proofs.TimesLemmas.{changes_at}
use Rattle.av_turns.proofs.ClientsLemmas.{gives_back, if_some, put_sound, some_and}
use Rattle.av_turns.proofs.clients.Clients.put.Goals as goal

pub overflow_sub-old : goal.overflow_sub-old
overflow_sub-old c =
    let some : at c.self.inside.clients.entries c.args.number ≡ Some c.in-Some.old = grind (arith, common_steps) in
    let same = some_and _ c.in-Some.old _ some (rw (← c.self.view_is) at c.requires.same) in
    omega (arith, c.settled-client.ensures.less, same.1)

abbrev before : goal.After-set → State
before c = record { clients = c.self.inside.clients.entries; ring = c.self.inside.ring.items; wants = c.self.inside.wants.items; shared = c.self.inside.shared; wait = c.self.inside.wait }

abbrev behind : goal.After-set → State
behind c = record { clients = c.set.new.clients.entries; ring = c.enter-is_ready.new.ring.items; wants = c.wait_for.new.wants.items; shared = c.saturating_sub-self-inside.result; wait = c.self.inside.wait }

some_old : (c : goal.After-set) → at c.self.inside.clients.entries c.args.number ≡ Some c.in-Some.old
some_old c = grind (arith, common_steps)

kept : (c : goal.After-set) → (c.settled-client.result.is_ready ≡ c.in-Some.old.is_ready) × (c.settled-client.result.share ≤ c.in-Some.old.share)
kept c =
    let same = some_and _ c.in-Some.old _ (some_old c) (rw (← c.self.view_is) at c.requires.same) in
    (c.settled-client.ensures.mark ∙ same.0, omega (arith, c.settled-client.ensures.less, same.1))

puts : (c : goal.After-set) → Puts (before c) (behind c) c.args.number c.in-Some.old c.settled-client.result
puts c =
    record {
      counts = c.set.ensures.is ∙ ap (λ b. set_value (is_at (nat_cmp c.args.number)) c.self.inside.clients.entries (record c.settled-client.result { is_ready = b })) (c.enter-is_ready.ensures.is ∙ ap (λ m. c.settled-client.result.is_ready || m) c.may_turn.ensures);
      ring = c.enter-is_ready.ensures.ring ∙ ap (λ m. entered c.settled-client.result.is_ready m c.args.number c.reserve.new.self.items) c.may_turn.ensures ∙ ap (entered c.settled-client.result.is_ready (may_turn c.settled-client.result) c.args.number) c.reserve.ensures.items;
      wants = c.wait_for.ensures ∙ ap (waiting c.in-Some.old.want c.settled-client.result.want c.args.number) c.reserve-2.ensures.items;
      shared = omega (arith, c.saturating_sub-self-inside.ensures, gives_back (before c) c.self.inside.due c.args.number c.in-Some.old c.settled-client.result c.self.invariant (some_old c), (kept c).1);
      wait = refl;
    }

bounded : (c : goal.After-set) → c.saturating_sub-self-inside.result ≤ 67108864
bounded c = omega (arith, (puts c).shared, c.self.invariant.bounded, (kept c).1)

pub invariant_of-self-2 : goal.invariant_of-self-2
invariant_of-self-2 c =
    put_sound (before c) (behind c) c.self.inside.due c.change.new.self c.args.number c.in-Some.old c.settled-client.result c.self.invariant (some_old c) (kept c).0 (bounded c) c.settled-client.ensures.fit (puts c)
    (changes_at _ _ c.args.number _ _ _ _ c.due.ensures c.due-2.ensures c.in_ok-change.ensures.ok)

pub returns-clause-ok : goal.returns-clause-ok
returns-clause-ok c =
    subst (λ s. IfSome (at s.clients c.args.number) (λ was. Puts s (behind c) c.args.number was (settled c.args.client))) c.self.view_is
    (if_some _ c.in-Some.old (λ was. Puts (before c) (behind c) c.args.number was (settled c.args.client)) (some_old c)
    (subst (λ k. Puts (before c) (behind c) c.args.number c.in-Some.old k) c.settled-client.ensures.value (puts c)))

pub returns-clause-count : goal.returns-clause-count
returns-clause-count c = subst (λ s. length c.set.new.clients.entries ≡ length s.clients) c.self.view_is c.set.ensures.count
