use Rattle.std.proofs.Common.{◌≡◌, ◌++◌, refl, sym, ap, ◌∙◌, subst}
use Rattle.std.specs.List.{AllByRecursion as Each}
use Rattle.std.specs.List.Sorted.{IsPermutation}
use Rattle.av_filter.proofs.LosingLemmas.{Runs, each_quiet, moved_where, port_order, port_run}
use Rattle.av_filter.proofs.OrderLemmas.{sorted_answers}
use Rattle.av_filter.specs.Call.{Reacts}
use Rattle.av_filter.specs.Conduct.{again_each, moves}
use Rattle.av_filter_table.specs.Orderly.{AreInOrder}
use Rattle.av_filter.specs.Reaction.{Reaction}
use Rattle.av_filter_table.specs.Ports.{without_port}
use Rattle.av_filter_table.specs.Table.{Table, on_port}
use Rattle.av_filter.proofs.losing.move_questions.Goals as goal

pub move_each-requires-clause-order : goal.move_each-requires-clause-order
move_each-requires-clause-order c =
    subst AreInOrder (sym (c.deref.ensures.value ∙ c.in_ok-lost.ensures)) (port_order c.args.port c.args.table.now.questions c.requires.stands.coherent.orderly.order)

pub move_each-requires-clause-run : goal.move_each-requires-clause-run
move_each-requires-clause-run c =
    let t = c.args.table.now in
    let set : c.set_connected.new.self ≡ record t { connected = c.without.result } = c.set_connected.ensures in
    subst (Each (Runs c.set_connected.new.self)) (sym (c.deref.ensures.value ∙ c.in_ok-lost.ensures))
    (subst (λ u. Each (Runs u) (on_port c.args.port t.questions)) (sym set) (port_run t c.args.port c.requires.stands.coherent.orderly.order))

pub returns : goal.returns
unfolding moves
returns c =
    let t = c.args.table.now in
    let v = c.args.volume.now in
    let port = c.args.port in
    let left : Table = record t { connected = without_port port t.connected } in
    let qs = on_port port t.questions in
    let r = again_each left v qs in
    let set : c.set_connected.new.self ≡ record t { connected = c.without.result } = c.set_connected.ensures in
    let is : c.set_connected.new.self ≡ left = set ∙ ap {B = Table} (λ ps. record t { connected = ps }) (c.without.ensures ∙ ap (without_port port) c.connected.ensures) in
    let lost : c.deref.result.now ≡ qs = c.deref.ensures.value ∙ c.in_ok-lost.ensures in
    let to : again_each c.set_connected.new.self v c.deref.result.now ≡ r = λ i. again_each (is i) v (lost i) in
    let told : c.move_each.new.answers.items ≡ r.answers = c.move_each.ensures.answers ∙ (λ i. c.in_ok-answers.ensures.items i ++ (to i).answers) in
    let sent : c.move_each.new.messages.items ≡ r.messages = c.move_each.ensures.messages ∙ (λ i. c.in_ok-messages.ensures.items i ++ (to i).messages) in
    let moved = subst (λ xs. IsPermutation xs c.sort_by_open.new.answers.items) told c.sort_by_open.ensures.moved in
    let ordered = sorted_answers left v qs c.sort_by_open.new.answers.items c.pended_count.ensures.ascend moved c.sort_by_open.ensures.sorted in
    subst (Reacts c.gives.result c.move_each.new.table v) (sym (moved_where t v port c.requires.left)) (record {
      answers = ap (λ xs. xs.items) c.gives.ensures.answers ∙ ordered;
      messages = ap (λ ms. ms.items) c.gives.ensures.messages ∙ sent;
      note = c.gives.ensures.note ∙ sym (each_quiet left v qs);
      table = c.move_each.ensures.table ∙ ap (λ (x : Reaction). x.table) to;
      volume = refl;
    })
