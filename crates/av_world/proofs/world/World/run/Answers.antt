use Rattle.std.proofs.Common.{[], refl, sym, subst}
use Rattle.av_world.proofs.OnceLemmas.{answers_once}
use Rattle.av_world.proofs.SoundLemmas.{grants_only_clean, holds_one_verdict, never_differs}
use Rattle.av_world.proofs.WorldLemmas.{IsGiven, begins, goes_on, reverse_more}
use Rattle.av_history.specs.Headline.{AnswersOnce, GrantsOnlyClean, HoldsOneVerdict, NeverDiffers}
use Rattle.av_history.specs.World.{start}
use Rattle.av_world.proofs.world.World.run.Goals as goal

pub loop-event-init : goal.loop-event-init
loop-event-init c =
    let s = start c.args.number c.args.mode c.args.limits in subst (λ w. IsGiven s w []) (sym c.in_ok-world.ensures) (begins s refl)

pub loop-event-preserved : goal.loop-event-preserved
loop-event-preserved c =
    let s = start c.args.number c.args.mode c.args.limits in
    subst (IsGiven s c.pass.new.self) (sym (reverse_more c.args.events.now c.loop-event.event-index c.event-item.result c.loop-event-test.true c.event-item.is))
    (goes_on s c.loop-event.world c.pass.new.self _ c.event-item.result c.loop-event.invariant c.pass.ensures)

pub returns-clause-one_verdict : goal.returns-clause-one_verdict
returns-clause-one_verdict c = subst HoldsOneVerdict (sym c.loop-event.invariant.leads) (holds_one_verdict c.args.number c.args.mode c.args.limits c.loop-event.world.history)

pub returns-clause-never_differs : goal.returns-clause-never_differs
returns-clause-never_differs c = subst NeverDiffers (sym c.loop-event.invariant.leads) (never_differs c.args.number c.args.mode c.args.limits c.loop-event.world.history)

pub returns-clause-only_clean : goal.returns-clause-only_clean
returns-clause-only_clean c = subst (GrantsOnlyClean c.args.mode) (sym c.loop-event.invariant.leads) (grants_only_clean c.args.number c.args.mode c.args.limits c.loop-event.world.history)

pub returns-clause-answers_once : goal.returns-clause-answers_once
returns-clause-answers_once c = subst AnswersOnce (sym c.loop-event.invariant.leads) (answers_once c.args.number c.args.mode c.args.limits c.loop-event.world.history)
