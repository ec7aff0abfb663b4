use Rattle.std.proofs.Common.{arith, ap, sym, ◌∙◌, ℕ, Option, None, inl, inr}
use Rattle.std.specs.Option.{option_map}
use Rattle.av_turns.specs.Clients.{longest_from}
use Rattle.av_turns.proofs.ClientsLemmas.{idle_there}
use Rattle.av_turns.proofs.clients.Clients.longest_idle.Goals as goal

pub returns-in-Some-longest-clause-there : goal.returns-in-Some-longest-clause-there
returns-in-Some-longest-clause-there c =
    let longest = sym c.loop-number.invariant ∙ ap (longest_from c.loop-number.longest) c.in-None.ensures.steps.0 ∙ c.in-Some-longest.is in
    elim (idle_there None c.args.self.now.clients c.in-Some-longest.number (ap (λ (o : Option (ℕ × ℕ)). option_map (λ x. x.1) o) longest)) [
      | inl none ↦ absurd (grind (arith, none))
      | inr here ↦ here
    ]
