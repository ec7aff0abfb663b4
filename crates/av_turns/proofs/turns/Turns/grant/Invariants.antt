use Rattle.std.proofs.Common.{ℕ, is_some, length, ◌≡◌, ◌≤◌}
use Rattle.av_turns.specs.Clients.{AreGranted, at}
use Rattle.av_turns.proofs.turns.Turns.grant.Given as goal

abbrev pub decreases-loop-self : goal.decreases-loop-self
decreases-loop-self l = length l.self-inside.clients.wants

abbrev pub invariant-loop-self : goal.invariant-loop-self
invariant-loop-self l = (l.self-inside.smalls ≡ l.initial.self-inside.smalls) × (l.self-inside.larges ≡ l.initial.self-inside.larges) × (l.self-inside.passed ≡ l.initial.self-inside.passed) × (l.self-inside.may_jump ≡ l.initial.self-inside.may_jump) × (l.self-inside.most_clients ≡ l.initial.self-inside.most_clients) × (l.self-inside.places ≡ l.initial.self-inside.places) × (l.self-inside.wait ≡ l.initial.self-inside.wait) × ((q : ℕ) → is_some (at l.self-inside.clients.clients q) ≡ is_some (at l.initial.self-inside.clients.clients q)) × (length l.self-inside.clients.clients ≤ l.self-inside.most_clients) × (l.self-inside.questions ≡ l.initial.self-inside.questions) × (l.self-inside.budget ≡ l.initial.self-inside.budget) × AreGranted l.initial.self-inside.clients l.self-inside.clients
