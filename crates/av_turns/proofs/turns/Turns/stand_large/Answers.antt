use Rattle.std.proofs.Common.{arith, ap, sym, subst, ◌≡◌, ◌∙◌, length, IfSome}
use Rattle.std.proofs.lemmas.Grind.{common_steps}
use Rattle.av_turns.specs.Client.{large_stood}
use Rattle.av_turns.specs.Clients.{at}
use Rattle.av_turns.specs.Line.{asked_of}
use Rattle.av_turns.specs.Turns.{All, WaitsLarge}
use Rattle.av_turns.proofs.TurnsLemmas.{large_waits}
use Rattle.std.proofs.Common.{None}
use Rattle.av_turns.proofs.CountsLemmas.{large_stands, no_large}
use Rattle.av_turns.proofs.turns.Turns.stand_large.Goals as goal

pub returns-clause-ok : goal.returns-clause-ok
returns-clause-ok c =
    let long : c.len.result ≡ length c.args.ask.content.items = grind (arith, common_steps) in
    let s : All = record { clients = c.self.inside.clients; smalls = c.self.inside.smalls; larges = c.self.inside.larges; passed = c.self.inside.passed; may_jump = c.self.inside.may_jump; most = c.self.inside.most_clients; wait = c.self.inside.wait; places = c.self.inside.places; questions = c.self.inside.questions; budget = c.self.inside.budget } in
    subst (λ t. IfSome (at t.clients.clients c.args.client) (λ d. WaitsLarge t (record s { clients = c.put.new.self; larges = c.stand.new.self; budget = c.of-self-inside.result }) c.args.client d (asked_of c.args.ask))) c.self.view_is
    (large_waits s c.put.new.self c.stand.new.self c.of-self-inside.result c.args.client c.in-Some.counts c.large_stood.result (asked_of c.args.ask) (sym c.get.ensures.value ∙ c.in-Some.is) (c.large_stood.ensures.value ∙ ap (λ l. large_stood l c.args.ask.first c.in-Some.counts) long) c.in-Ok.ensures.ok c.in_ok-stand.ensures.ok (sym c.is_spent.ensures ∙ c.if-is_spent.false) c.of-self-inside.ensures)

pub invariant_of-self-2 : goal.invariant_of-self-2
invariant_of-self-2 c =
    let long : c.len.result ≡ length c.args.ask.content.items = grind (arith, common_steps) in
    let none : c.in-Some.counts.next_large ≡ None = no_large c.in-Some.counts (sym c.may_parse.ensures.is ∙ c.if-not-may_parse.false) in
    large_stands c.self.inside.clients c.put.new.self c.self.inside.most_clients c.args.client c.self.inside.smalls.asks c.self.inside.larges.asks c.stand.new.self.asks c.in-Some.counts c.large_stood.result (asked_of c.args.ask) c.self.invariant (sym c.get.ensures.value ∙ c.in-Some.is) none
    (c.large_stood.ensures.value ∙ ap (λ l. large_stood l c.args.ask.first c.in-Some.counts) long) c.in-Ok.ensures.ok c.in_ok-stand.ensures.ok.asks c.put.ensures.count
