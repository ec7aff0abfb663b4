use Rattle.std.proofs.Common.{◌≡◌, ◌++◌, ◌∷◌, [], false, true, rules, ap, ◌∙◌}
use Rattle.av_base.specs.declared.cause.Cause.TheVariants.{Busy}
use Rattle.av_filter.proofs.OpeningLemmas.{answered, at_floor, if_ok, joined, numbers_below, opened_crowded, same_refusal}
use Rattle.av_filter_table.specs.FilterTable.{id_of}
use Rattle.av_filter_table.specs.Table.{Table, has_room}
use Rattle.av_filter.proofs.opening.join.Goals as goal

pub returns-then-not-has_room-clause-ok : goal.returns-then-not-has_room-clause-ok
returns-then-not-has_room-clause-ok c =
    let t = c.args.table.now in
    let v = c.args.volume.now in
    let a = c.args.arrival.now in
    let i = c.requires.arrival in
    let full : has_room t ≡ false = search rules in
    if_ok c.refuse_at_once.result _ _ (λ out is. answered out t c.refuse_at_once.new.table v a.stream a.least a.open_id _ _ i.open_id (same_refusal a t v Busy i) is
    (opened_crowded t v a.stream a.least i.present c.args.question.now i.there (at_floor a t v _ i c.requires.unjudged) c.requires.asked full)) c.refuse_at_once.ensures.ok

pub add_open-requires-clause-last : goal.add_open-requires-clause-last
add_open-requires-clause-last c = numbers_below c.args.table.now c.args.volume.now c.waiting.result.open_id c.requires.fits (ap (λ w. w.open_id) c.waiting.ensures ∙ c.requires.arrival.open_id)

pub returns-clause-ok : goal.returns-clause-ok
returns-clause-ok c =
    let t = c.args.table.now in
    let q = c.args.question.now in
    let room : has_room t ≡ true = search rules in
    joined c.pends.result t c.add_open.new.self c.raise.new.self c.args.volume.now c.args.arrival.now q c.requires.arrival c.requires.unjudged c.requires.asked c.requires.runs room
    (c.in_default.ensures.ok ∙ ap {B = Table} (λ w. record t { pended = t.pended ++ record { question = id_of t.boot q.id.seq; held = w } ∷ [] }) c.waiting.ensures) c.raise.ensures
    c.pends.ensures.answers c.pends.ensures.messages c.pends.ensures.note
