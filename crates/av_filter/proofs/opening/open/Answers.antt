use Rattle.std.proofs.Common.{◌≡◌, Some, max, sym, ap, ◌∙◌}
use Rattle.av_base.specs.declared.cause.Cause.TheVariants.{NoStream}
use Rattle.av_filter.proofs.OpeningLemmas.{answered, arrives, at_floor, if_ok, not_there, opened_away, opened_judged, same_verdict}
use Rattle.av_filter.specs.Arriving.{IsArrival}
use Rattle.av_filter.specs.Opening.{new_open, taken}
use Rattle.av_filter.specs.declared.opening.Arrival.{Arrival}
use Rattle.av_filter_table.specs.Answering.{judged}
use Rattle.av_filter_table.specs.Table.{context_of, current}
use Rattle.av_pend.specs.Pend.{denied}
use Rattle.av_filter.proofs.opening.open.Goals as goal

pub returns-in_default-clause-ok : goal.returns-in_default-clause-ok
returns-in_default-clause-ok c =
    let t = c.args.table.now in
    let v = c.args.volume.now in
    let s = c.args.stream in
    let away = not_there v s c.in_default.ensures in
    let same : c.deny-answer.result ≡ denied NoStream (new_open (taken v) s c.args.least) = c.deny-answer.ensures ∙ ap (denied NoStream) c.new.ensures ∙ ap (λ n. denied NoStream (record { open_id = n; stream = s; least = c.args.least; rescans = 0 })) c.next_open-open_id.ensures in
    if_ok c.answer_at_once.result _ _ (λ out is. answered out t c.answer_at_once.new.table v s c.args.least c.next_open-open_id.result _ _ c.next_open-open_id.ensures same is (opened_away t v s c.args.least away)) c.answer_at_once.ensures.ok

pub returns-in-Some-verdict_under-clause-ok : goal.returns-in-Some-verdict_under-clause-ok
returns-in-Some-verdict_under-clause-ok c =
    let t = c.args.table.now in
    let v = c.args.volume.now in
    let s = c.args.stream in
    let least = c.args.least in
    let a : Arrival = record { open_id = c.next_open-open_id.result; stream = s; generation = c.in-Some.generation; least = least; floor = c.later-floor.result } in
    let i : IsArrival a t v = arrives a t v c.in-Some.ensures c.next_open-open_id.ensures (c.later-floor.ensures ∙ ap (λ f. max f least) c.floor.ensures) in
    let r = c.in-Some-verdict_under.verdict in
    let found : current (context_of t.contexts s) a.floor ≡ Some r = ap (λ o. current o a.floor) (sym c.state_of.ensures) ∙ sym c.in-Some-verdict_under.ensures in
    let same = c.judge-answer.ensures ∙ ap (λ w. judged r a.generation a.floor w) c.waiting.ensures ∙ same_verdict a t v r i in
    if_ok c.answer_at_once-in-Some-verdict_under.result _ _ (λ out is. answered out t c.answer_at_once-in-Some-verdict_under.new.table v s least a.open_id _ _ i.open_id same is (opened_judged t v s least i.present r i.there (at_floor a t v (Some r) i found))) c.answer_at_once-in-Some-verdict_under.ensures.ok
