use Rattle.std.proofs.Common.{ap, refl, sym, subst, ◌∙◌, OnOk}
use Rattle.av_turns.specs.Client.{answered}
use Rattle.av_turns.specs.Turns.{All, Tells}
use Rattle.av_turns.specs.Counts.{kept_of}
use Rattle.av_turns.proofs.CountsLemmas.{still_counted}
use Rattle.av_turns.proofs.TurnsLemmas.{tells}
use Rattle.av_turns.proofs.turns.Turns.answered.Goals as goal

pub returns-clause-ok : goal.returns-clause-ok
returns-clause-ok c =
    let s : All = record { clients = c.self.inside.clients; smalls = c.self.inside.smalls; larges = c.self.inside.larges; passed = c.self.inside.passed; may_jump = c.self.inside.may_jump; most = c.self.inside.most_clients; wait = c.self.inside.wait; places = c.self.inside.places; questions = c.self.inside.questions; budget = c.self.inside.budget } in
    subst (λ t. OnOk c.put.result (Tells t (record s { clients = c.put.new.self }) c.args.client (answered c.args.bytes c.args.now))) c.self.view_is
    (tells s c.put.new.self c.args.client c.in-Some.counts c.answered.result (answered c.args.bytes c.args.now) c.put.result (sym c.get.ensures.value ∙ c.in-Some.is) c.answered.ensures.value c.put.ensures.ok)

pub invariant_of-self : goal.invariant_of-self
invariant_of-self c =
    still_counted c.put.result c.self.inside.clients c.put.new.self c.self.inside.most_clients c.args.client c.self.inside.smalls.asks c.self.inside.larges.asks c.in-Some.counts c.answered.result c.self.invariant (sym c.get.ensures.value ∙ c.in-Some.is)
    (ap kept_of c.answered.ensures.value ∙ refl) c.put.ensures.ok c.put.ensures.err c.put.ensures.count
