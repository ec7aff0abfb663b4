use Rattle.std.proofs.Common.{◌≡◌, ◌+◌, ◌++◌, ◌∷◌, ◌∙◌, [], take, ap, arith, refl, sym, subst}
use Rattle.std.proofs.lemmas.List.{take_more}
use Rattle.av_daemon.specs.Hearing.{unheard_at, unheard_of}
use Rattle.av_daemon.specs.Passing.{AreGiven}
use Rattle.av_peers.specs.Service.{SaysFirst}
use Rattle.av_daemon.proofs.HearingLemmas.{first_of}
use Rattle.av_daemon.proofs.PassingLemmas.{given_then, keeps_all, none_lost}
use Rattle.av_daemon.proofs.daemon.Daemon.take_messages.Goals as goal

pub returns-then-eq : goal.returns-then-eq
returns-then-eq g c =
    let all = c.as_slice-message-items.result.now in
    let i = c.messages.message-index in
    let m = c.message-item.result in
    let after = c.take_message.new.guard in
    let more : take (i + 1) all ≡ take i all ++ m ∷ [] = take_more all i m (omega arith) ∙ ap (λ n. take i all ++ n ∷ []) (sym c.message-item.is) in
    let first : SaysFirst all (unheard_at c.connection_of.result c.args.self.now.services.entries) =
    subst (λ o. SaysFirst all (unheard_of o)) c.in-Some.ensures.value
    (rw (c.as_slice-message-items.ensures.value) c.take_whole-messages.ensures.messages) in
    record {
      messages = take (i + 1) all;
      after = after;
      first = first_of (i + 1) all _ (subst (λ n. SaysFirst all (unheard_at n c.args.self.now.services.entries)) c.connection_of.ensures.number first);
      given =
          subst (λ ms. AreGiven ms c.args.guard.now after) (sym more)
          (given_then (take i all) c.args.guard.now c.messages.guard after m c.messages.invariant c.in_ok-take_message.ensures);
      lost = none_lost after after (keeps_all after after refl);
    }

pub messages-preserved : goal.messages-preserved
messages-preserved g c =
    let all = c.as_slice-message-items.result.now in
    let i = c.messages.message-index in
    let m = c.message-item.result in
    let more : take (i + 1) all ≡ take i all ++ m ∷ [] = take_more all i m (omega arith) ∙ ap (λ n. take i all ++ n ∷ []) (sym c.message-item.is) in
    subst (λ ms. AreGiven ms c.args.guard.now c.take_message.new.guard) (sym more)
    (given_then (take i all) c.args.guard.now c.messages.guard c.take_message.new.guard m c.messages.invariant c.in_ok-take_message.ensures)
