use Rattle.std.proofs.Common.{arith, ap, ◌≡◌, ◌∷◌, ◌∙◌, [], drop, sym}
use Rattle.std.proofs.lemmas.Grind.{common_steps}
use Rattle.av_turns.specs.Line.{queue_of}
use Rattle.av_turns.proofs.LineLemmas.{drops_nothing, nothing_in_front}
use Rattle.av_turns.proofs.line.WaitingLine.look.Goals as goal

pub returns-in_default-length_of-clause-exact : goal.returns-in_default-length_of-clause-exact
returns-in_default-length_of-clause-exact c =
    let nothing : queue_of c.self.inside.asks.entries c.in-Some.client ≡ [] = nothing_in_front _ (sym c.length_of.ensures ∙ c.in_default-length_of.is) in
    let front : c.self.inside.order.items ≡ c.in-Some.client ∷ drop 1 c.self.inside.order.items = grind (arith, common_steps) in
    let left : c.pop_front.new.self.items ≡ drop 1 c.self.inside.order.items = grind (arith, common_steps, c.pop_front.ensures.items) in
    rw (← c.self.view_is)
    (record {
      who = c.in-Some.client;
      front = front ∙ ap (λ o. c.in-Some.client ∷ o) (sym left);
      bare = nothing;
      asks = drops_nothing c.self.inside.asks.entries c.drop_from.new.asks.entries c.in-Some.client c.drop_from.ensures nothing;
    })
