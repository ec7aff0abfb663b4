use Rattle.std.proofs.Common.{◌≡◌, ◌+◌, ◌++◌, ◌∷◌, [], None, Some, false, true, is_some, length, rules, sym, ap, ◌∙◌}
use Rattle.av_base.specs.declared.cause.Cause.TheVariants.{Busy, NotConnected}
use Rattle.av_filter.proofs.OpeningLemmas.{answered, asked, at_floor, cached_at, if_ok, numbers_below, opened_apart, opened_busy, opened_full, same_refusal}
use Rattle.av_context.specs.Contexts.{set_at}
use Rattle.av_context.specs.declared.context_state.ContextState.TheVariants.{Scanning}
use Rattle.av_filter.specs.Again.{scan_message}
use Rattle.av_filter_table.specs.Answering.{present_bytes, present_generation}
use Rattle.av_filter_table.specs.Table.{Table, asking, has_room, next_id}
use Rattle.av_filter_table.specs.Ports.{least_port}
use Rattle.av_frame.specs.Message.{via}
use Rattle.av_frame.specs.declared.message.Body.TheVariants.{Scan}
use Rattle.av_filter.proofs.opening.open_unknown.Goals as goal

pub returns-then-not-has_room-clause-ok : goal.returns-then-not-has_room-clause-ok
returns-then-not-has_room-clause-ok c =
    let t = c.args.table.now in
    let v = c.args.volume.now in
    let a = c.args.arrival.now in
    let i = c.requires.arrival in
    let full : has_room t ≡ false = search rules in
    if_ok c.refuse_at_once.result _ _ (λ out is. answered out t c.refuse_at_once.new.table v a.stream a.least a.open_id _ _ i.open_id (same_refusal a t v Busy i) is
    (opened_full t v a.stream a.least i.present i.there (at_floor a t v _ i c.requires.unjudged) c.requires.unasked (cached_at a t v _ i c.requires.miss) full)) c.refuse_at_once.ensures.ok

pub returns-then-is_none-clause-ok : goal.returns-then-is_none-clause-ok
returns-then-is_none-clause-ok c =
    let t = c.args.table.now in
    let v = c.args.volume.now in
    let a = c.args.arrival.now in
    let i = c.requires.arrival in
    let room : has_room t ≡ true = search rules in
    let away : is_some (least_port t.connected) ≡ false = ap (λ o. is_some o) (ap least_port (sym c.connected.ensures) ∙ sym c.least.ensures) ∙ c.if-is_none.ensures in
    if_ok c.refuse_at_once-then-is_none.result _ _ (λ out is. answered out t c.refuse_at_once-then-is_none.new.table v a.stream a.least a.open_id _ _ i.open_id (same_refusal a t v NotConnected i) is
    (opened_apart t v a.stream a.least i.present i.there (at_floor a t v _ i c.requires.unjudged) c.requires.unasked (cached_at a t v _ i c.requires.miss) room away)) c.refuse_at_once-then-is_none.ensures.ok

pub returns-in_default-clause-ok : goal.returns-in_default-clause-ok
returns-in_default-clause-ok c =
    let t = c.args.table.now in
    let v = c.args.volume.now in
    let a = c.args.arrival.now in
    let i = c.requires.arrival in
    let room : has_room t ≡ true = search rules in
    let near : is_some (least_port t.connected) ≡ true = ap (λ o. is_some o) (ap least_port (sym c.connected.ensures) ∙ sym c.least.ensures) ∙ c.if-is_none.ensures in
    let can : asking t ≡ None = sym c.asking.ensures.port ∙ c.in_default.is in
    if_ok c.refuse_at_once-in_default.result _ _ (λ out is. answered out t c.refuse_at_once-in_default.new.table v a.stream a.least a.open_id _ _ i.open_id (same_refusal a t v Busy i) is
    (opened_busy t v a.stream a.least i.present i.there (at_floor a t v _ i c.requires.unjudged) c.requires.unasked (cached_at a t v _ i c.requires.miss) room near can)) c.refuse_at_once-in_default.ensures.ok

pub ask_for-requires-clause-last : goal.ask_for-requires-clause-last
ask_for-requires-clause-last c = numbers_below c.args.table.now c.args.volume.now c.waiting.result.open_id c.requires.fits (ap (λ w. w.open_id) c.waiting.ensures ∙ c.requires.arrival.open_id)

pub returns-in-Ok-clause-ok : goal.returns-in-Ok-clause-ok
returns-in-Ok-clause-ok c =
    let t = c.args.table.now in
    let v = c.args.volume.now in
    let a = c.args.arrival.now in
    let port = c.in-Some.port in
    let room : has_room t ≡ true = search rules in
    let near : is_some (least_port t.connected) ≡ true = ap (λ o. is_some o) (ap least_port (sym c.connected.ensures) ∙ sym c.least.ensures) ∙ c.if-is_none.ensures in
    let can : asking t ≡ Some port = sym c.asking.ensures.port ∙ c.in-Some.is in
    let sent : c.asks.result.messages.items ≡ c.scan_message.result ∷ [] = search rules in
    let is : c.scan_message.result ≡ scan_message t v port a.stream = c.scan_message.ensures ∙ ap (λ id. via port (Scan id a.stream (present_generation v a.stream) (length (present_bytes v a.stream)))) c.in-Ok.ensures.id in
    asked c.asks.result t c.ask_for.new.self c.raise.new.self v port a c.scan_message.result c.requires.arrival c.requires.unjudged c.requires.unasked c.requires.miss room near can
    (c.in-Ok.ensures.ok
    ∙ ap {B = Table} (λ w. record t {
      sequence = t.sequence + 1;
      contexts = set_at t.contexts a.stream (Some (Scanning (next_id t)));
      questions = t.questions ++ record { id = next_id t; port = port; stream = a.stream; generation = a.generation } ∷ [];
      pended = t.pended ++ record { question = next_id t; held = w } ∷ [];
    }) c.waiting.ensures) c.raise.ensures
    c.asks.ensures.answers sent is c.asks.ensures.note
