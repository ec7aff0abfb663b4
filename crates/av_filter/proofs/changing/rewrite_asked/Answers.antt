use Rattle.std.proofs.Common.{◌≡◌, ◌++◌, ◌∷◌, [], sym, ap, ◌∙◌, subst}
use Rattle.av_filter.proofs.AgainLemmas.{reacts_behind}
use Rattle.av_filter.proofs.ReadyLemmas.{there_by}
use Rattle.av_filter.specs.Again.{again}
use Rattle.av_filter.specs.Call.{Reacts}
use Rattle.av_frame.specs.Message.{via}
use Rattle.av_frame.specs.declared.message.Body.TheVariants.{Abort}
use Rattle.av_store.specs.Seen.{kept_or}
use Rattle.av_filter.proofs.changing.rewrite_asked.Goals as goal

pub ask_or_close-requires-clause-there : goal.ask_or_close-requires-clause-there
ask_or_close-requires-clause-there c = there_by c.args.volume.now c.accept.new.volume c.args.question.now.stream c.args.rewriting c.in_ok-accept.ensures.ok

pub returns : goal.returns
returns c =
    let t = c.args.table.now in
    let v = c.accept.new.volume in
    let q = c.args.question.now in
    let early = via q.port (Abort q.id) ∷ [] in
    let changed = ap (kept_or c.args.volume.now) c.in_ok-accept.ensures.ok in
    let sent : c.push_reserved.new.self.items ≡ early = c.push_reserved.ensures.items ∙ (λ i. c.in_ok-messages.ensures.items i ++ c.abort.ensures i ∷ []) in
    subst (λ w. Reacts c.gives.result c.ask_or_close.new.table v (again t w q early)) (sym changed)
    (reacts_behind c.gives.result t c.ask_or_close.new.table v q early
    (ap (λ xs. xs.items) c.gives.ensures.answers ∙ c.ask_or_close.ensures.answers ∙ ap (λ xs. xs ++ (again t v q []).answers) c.in_ok-answers.ensures.empty)
    (ap (λ ms. ms.items) c.gives.ensures.messages ∙ c.ask_or_close.ensures.messages ∙ ap (λ ms. ms ++ (again t v q []).messages) sent)
    c.gives.ensures.note c.ask_or_close.ensures.table)
