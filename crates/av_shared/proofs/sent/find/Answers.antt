use Rattle.std.proofs.Common.{refl, subst}
use Rattle.std.proofs.lemmas.Option.{slice_get_read}
use Rattle.av_base.specs.Among.{Among}
use Rattle.av_shared.proofs.AmongLemmas.{among_sent, not_sent}
use Rattle.av_shared.proofs.sent.find.Goals as goal

pub returns-in-Some-found-clause-found : goal.returns-in-Some-found-clause-found
returns-in-Some-found-clause-found g c = λ _.
    let got = c.in-Some.ensures.lookup in
    among_sent g.E.Sends.messages c.args.message.now c.args.events.now c.events.at c.args.count c.in-Some.entry.now (slice_get_read _ _ _ _ refl got.3.0 got.1) c.events-test.true
    (subst (Among c.args.message.now) c.sent.ensures (c.in-Some-found.ensures.found refl))

pub events-preserved : goal.events-preserved
events-preserved g c = λ start.
    let got = c.in-Some.ensures.lookup in
    not_sent g.E.Sends.messages c.args.message.now c.args.events.now c.events.at c.in-Some.entry.now (slice_get_read _ _ _ _ refl got.3.0 got.1) (c.events.invariant start)
    (subst (λ ms. ¬ Among c.args.message.now ms) c.sent.ensures (c.in_default-found.ensures.nowhere (c.first.ensures start) refl))
