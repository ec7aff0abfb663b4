use Rattle.std.proofs.Common.{sym, subst, ◌∙◌, ◌≡◌, None}
use Rattle.av_turns.specs.Clients.{at}
use Rattle.av_turns.specs.Line.{IsFirst}
use Rattle.av_turns.specs.Turns.{standing_of}
use Rattle.av_turns.proofs.CountsLemmas.{small_leaves, small_there}
use Rattle.av_turns.proofs.turns.Turns.pull_small.Goals as goal

pub unreachable-requires : goal.unreachable-requires
unreachable-requires c =
    let first : IsFirst c.self.inside.smalls.asks c.args.first = subst (λ t. IsFirst t.smalls.asks c.args.first) (sym c.self.view_is) c.requires.first.1 in
    let none : at c.self.inside.clients.clients c.args.first.client ≡ None = subst (λ m. at c.self.inside.clients.clients m ≡ None) (sym c.requires.first.0) (sym c.get.ensures.value ∙ c.in_default.is) in
    small_there c.self.inside.clients.clients c.self.inside.smalls.asks c.self.inside.larges.asks c.args.first c.self.invariant.1 first none

pub invariant_of-self-2 : goal.invariant_of-self-2
invariant_of-self-2 c =
    let first : IsFirst c.self.inside.smalls.asks c.args.first = subst (λ t. IsFirst t.smalls.asks c.args.first) (sym c.self.view_is) c.requires.first.1 in
    let pulls = c.in-Some-pull.ensures.some.1 in
    small_leaves c.self.inside.clients c.put.new.self c.self.inside.most_clients c.args.client c.self.inside.smalls.asks c.pull.new.self.asks c.self.inside.larges.asks c.in-Some.counts c.small_left.result (standing_of c.in-Some-pull.standing) c.args.first c.self.invariant
    (sym c.get.ensures.value ∙ c.in-Some.is) c.small_left.ensures.value c.in_ok-put.ensures.ok c.requires.first.0 first pulls.ask pulls.others c.put.ensures.count
