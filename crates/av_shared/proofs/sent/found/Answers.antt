use Rattle.std.proofs.Common.{refl, sym, subst}
use Rattle.std.proofs.lemmas.Option.{slice_get_read}
use Rattle.av_base.specs.Among.{Among}
use Rattle.av_frame.specs.Message.{Letter}
use Rattle.av_shared.proofs.AmongLemmas.{among_at, not_among_more}
use Rattle.av_shared.proofs.sent.found.Goals as goal

pub returns-then-same_message-clause-found : goal.returns-then-same_message-clause-found
returns-then-same_message-clause-found c = λ _. subst (λ (m : Letter). Among m c.args.messages.now) (c.same_message.ensures.sound c.if-same_message.true) (among_at c.args.messages.now c.messages.at c.index-messages-at.result c.messages-test.true c.index-messages-at.is)

pub messages-preserved : goal.messages-preserved
messages-preserved c = λ first.
    not_among_more c.args.messages.now c.messages.at c.index-messages-at.result c.args.message.now (slice_get_read _ _ _ _ refl c.messages-test.true c.index-messages-at.is) (c.messages.invariant first)
    (λ e. let same = c.same_message.ensures.complete (sym e) in let other = c.if-same_message.false in cc)
