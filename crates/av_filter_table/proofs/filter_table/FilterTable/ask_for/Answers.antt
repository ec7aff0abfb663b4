use Rattle.std.proofs.Common.{◌≡◌, ◌+◌, ◌<◌, ◌≤◌, length, IsSomeAnd, None, Some, map, sym, ap, subst, ◌∙◌}
use Rattle.std.specs.List.{AllByRecursion}
use Rattle.std.specs.Map.{keys_of}
use Rattle.std.specs.Option.{option_map}
use Rattle.av_context.specs.Contexts.{at, PutsAt}
use Rattle.av_context.specs.declared.context_state.ContextState.TheVariants.{Scanning}
use Rattle.av_filter_table.specs.Chains.{plains, asked_about}
use Rattle.av_numbered.specs.Numbered.{IsAscending}
use Rattle.av_filter_table.specs.FilterTable.{id_of, asked_of, held_of, open_numbers, questions_of, pended_of, IsConsistent}
use Rattle.av_filter_table.specs.StreamContexts.{states, known_again, held_of as held_out}
use Rattle.av_filter_table.specs.Table.{question_of}
use Rattle.av_filter_table.proofs.AgainLemmas.{chained-new, held-key}
use Rattle.av_numbered.proofs.MapLemmas.{puts-ascends, put_back, is_there}
use Rattle.av_filter_table.proofs.RoomLemmas.{room-for_one, still-allowed, still-few}
use Rattle.av_filter_table.proofs.TableLemmas.{unasked-of, numbers-below, new-question, asks, undone, keys-below, numbered-result, unasked-result, rows-kept, pended-end}
use Rattle.av_filter_table.proofs.filter_table.FilterTable.ask_for.Goals as goal

pub insert-requires : goal.insert-requires
insert-requires c = record {
  few = room-for_one c.self.inside.limits c.self.inside.boot c.self.inside.questions c.values-in_range.ensures.in_range (subst (λ t. length t.questions < t.limits.questions) (sym c.self.view_is) c.requires.room);
  last = numbers-below c.self.inside.boot c.self.inside.sequence c.self.inside.questions c.self.inside.pended c.self.inside.contexts c.self.invariant.rows;
}

pub append-requires-clause-chained : goal.append-requires-clause-chained
append-requires-clause-chained c =
    chained-new c.self.inside.boot c.self.inside.sequence c.args.port c.args.stream c.args.generation c.in-Ok.context c.self.inside.questions c.insert.new.self c.self.inside.pended c.self.inside.contexts c.self.invariant.rows (subst (λ r. PutsAt c.self.inside.questions c.insert.new.self (c.self.inside.sequence + 1) (Some (r, c.in-Ok.context))) c.new-row.ensures c.insert.ensures.puts)

pub append-requires-clause-last : goal.append-requires-clause-last
append-requires-clause-last c =
    let number = c.get-number.ensures ∙ c.open_id.ensures in
    subst (λ n. AllByRecursion (λ k. k < n) (keys_of c.self.inside.pended)) (sym number)
    (keys-below c.self.inside.boot c.args.held.open_id c.self.inside.pended c.self.invariant.rows.numbered
    (subst (λ t. AllByRecursion (λ n. n < c.args.held.open_id) (open_numbers t.pended)) (sym c.self.view_is) c.requires.last))

pub undo_hold-requires : goal.undo_hold-requires
undo_hold-requires c =
    subst (λ o. IsSomeAnd o (λ m. (m.key ≡ c.in-Some.context) × (m.held ≡ 1))) (sym c.in-Ok.ensures.ok.here)
    (sym (held-key (c.self.inside.sequence + 1) c.insert.new.self c.append.new.questions (asked_about c.args.stream c.args.generation c.args.port) c.in-Some._asked c.in-Ok.context c.in-Some.context c.in-Err.ensures.err.1 (subst (λ r. PutsAt c.self.inside.questions c.insert.new.self (c.self.inside.sequence + 1) (Some (r, c.in-Ok.context))) c.new-row.ensures c.insert.ensures.puts).here c.in-Some.ensures.value), ap (λ n. n + 1) (c.self.invariant.rows.free c.args.stream (unasked-of c.self.inside.boot c.args.stream c.self.inside.questions (subst (λ t. question_of c.args.stream t.questions ≡ None) (sym c.self.view_is) c.requires.none))))

pub invariant_of-self-in-Err : goal.invariant_of-self-in-Err
invariant_of-self-in-Err c = record {
  rows = (subst (λ q. IsConsistent c.self.inside.boot c.self.inside.sequence q c.append.new.pended c.undo_hold.new.self) (sym (put_back c.self.inside.questions c.insert.new.self c.remove.new.self (c.self.inside.sequence + 1) (Some (asked_about c.args.stream c.args.generation c.args.port, c.in-Ok.context)) c.len-numbers_ascend.ensures.ascend
      (puts-ascends c.append.new.questions c.remove.new.self (c.self.inside.sequence + 1) None c.remove.ensures.puts (subst IsAscending (sym c.in-Err.ensures.err.1) (puts-ascends c.self.inside.questions c.insert.new.self (c.self.inside.sequence + 1) _ (subst (λ r. PutsAt c.self.inside.questions c.insert.new.self (c.self.inside.sequence + 1) (Some (r, c.in-Ok.context))) c.new-row.ensures c.insert.ensures.puts) c.len-numbers_ascend.ensures.ascend)))
      (subst (λ r. PutsAt c.self.inside.questions c.insert.new.self (c.self.inside.sequence + 1) (Some (r, c.in-Ok.context))) c.new-row.ensures c.insert.ensures.puts)
      (subst (λ o. PutsAt c.insert.new.self c.remove.new.self (c.self.inside.sequence + 1) o) (sym (new-question c.self.inside.boot c.self.inside.sequence c.self.inside.questions c.self.inside.pended c.self.inside.contexts c.self.invariant.rows))
      (subst (λ q. PutsAt q c.remove.new.self (c.self.inside.sequence + 1) None) c.in-Err.ensures.err.1 c.remove.ensures.puts))))
      (subst (λ p. IsConsistent c.self.inside.boot c.self.inside.sequence c.self.inside.questions p c.undo_hold.new.self) (sym c.in-Err.ensures.err.0)
      (subst (λ k. IsConsistent c.self.inside.boot c.self.inside.sequence c.self.inside.questions c.self.inside.pended k) (sym (undone c.self.inside.contexts c.hold.new.self c.undo_hold.new.self c.args.stream c.in-Ok.context
      (record { key = c.in-Ok.context; state = Scanning (id_of c.self.inside.boot (c.self.inside.sequence + 1)); held = held_out (at c.self.inside.contexts c.args.stream) + 1 }) c.state_of-old.result
      c.in-Ok.ensures.ascend
      (puts-ascends c.self.inside.contexts c.hold.new.self c.args.stream _ c.in-Ok.ensures.ok c.in-Ok.ensures.ascend)
      (c.self.invariant.rows.free c.args.stream (unasked-of c.self.inside.boot c.args.stream c.self.inside.questions (subst (λ t. question_of c.args.stream t.questions ≡ None) (sym c.self.view_is) c.requires.none))) c.in-Ok.ensures.same c.state_of-old.ensures c.in-Ok.ensures.ok
      (subst (λ v. PutsAt c.hold.new.self c.undo_hold.new.self c.args.stream (option_map (known_again v) c.state_of-old.result)) (held-key (c.self.inside.sequence + 1) c.insert.new.self c.append.new.questions (asked_about c.args.stream c.args.generation c.args.port) c.in-Some._asked c.in-Ok.context c.in-Some.context c.in-Err.ensures.err.1 (subst (λ r. PutsAt c.self.inside.questions c.insert.new.self (c.self.inside.sequence + 1) (Some (r, c.in-Ok.context))) c.new-row.ensures c.insert.ensures.puts).here c.in-Some.ensures.value) c.undo_hold.ensures))) c.self.invariant.rows)));
  mounted = c.self.invariant.mounted;
  few = subst (λ q. length q ≤ c.self.inside.limits.questions) (sym (put_back c.self.inside.questions c.insert.new.self c.remove.new.self (c.self.inside.sequence + 1) (Some (asked_about c.args.stream c.args.generation c.args.port, c.in-Ok.context)) c.len-numbers_ascend.ensures.ascend
      (puts-ascends c.append.new.questions c.remove.new.self (c.self.inside.sequence + 1) None c.remove.ensures.puts (subst IsAscending (sym c.in-Err.ensures.err.1) (puts-ascends c.self.inside.questions c.insert.new.self (c.self.inside.sequence + 1) _ (subst (λ r. PutsAt c.self.inside.questions c.insert.new.self (c.self.inside.sequence + 1) (Some (r, c.in-Ok.context))) c.new-row.ensures c.insert.ensures.puts) c.len-numbers_ascend.ensures.ascend)))
      (subst (λ r. PutsAt c.self.inside.questions c.insert.new.self (c.self.inside.sequence + 1) (Some (r, c.in-Ok.context))) c.new-row.ensures c.insert.ensures.puts)
      (subst (λ o. PutsAt c.insert.new.self c.remove.new.self (c.self.inside.sequence + 1) o) (sym (new-question c.self.inside.boot c.self.inside.sequence c.self.inside.questions c.self.inside.pended c.self.inside.contexts c.self.invariant.rows))
      (subst (λ q. PutsAt q c.remove.new.self (c.self.inside.sequence + 1) None) c.in-Err.ensures.err.1 c.remove.ensures.puts)))) c.self.invariant.few;
  sized = c.self.invariant.sized;
}

pub returns-in-Err-clause-err : goal.returns-in-Err-clause-err
returns-in-Err-clause-err c =
    let t = c.self.inside in
    let k = (undone c.self.inside.contexts c.hold.new.self c.undo_hold.new.self c.args.stream c.in-Ok.context
    (record { key = c.in-Ok.context; state = Scanning (id_of c.self.inside.boot (c.self.inside.sequence + 1)); held = held_out (at c.self.inside.contexts c.args.stream) + 1 }) c.state_of-old.result
    c.in-Ok.ensures.ascend
    (puts-ascends c.self.inside.contexts c.hold.new.self c.args.stream _ c.in-Ok.ensures.ok c.in-Ok.ensures.ascend)
    (c.self.invariant.rows.free c.args.stream (unasked-of c.self.inside.boot c.args.stream c.self.inside.questions (subst (λ t. question_of c.args.stream t.questions ≡ None) (sym c.self.view_is) c.requires.none))) c.in-Ok.ensures.same c.state_of-old.ensures c.in-Ok.ensures.ok
    (subst (λ v. PutsAt c.hold.new.self c.undo_hold.new.self c.args.stream (option_map (known_again v) c.state_of-old.result)) (held-key (c.self.inside.sequence + 1) c.insert.new.self c.append.new.questions (asked_about c.args.stream c.args.generation c.args.port) c.in-Some._asked c.in-Ok.context c.in-Some.context c.in-Err.ensures.err.1 (subst (λ r. PutsAt c.self.inside.questions c.insert.new.self (c.self.inside.sequence + 1) (Some (r, c.in-Ok.context))) c.new-row.ensures c.insert.ensures.puts).here c.in-Some.ensures.value) c.undo_hold.ensures)) in
    let q = (put_back c.self.inside.questions c.insert.new.self c.remove.new.self (c.self.inside.sequence + 1) (Some (asked_about c.args.stream c.args.generation c.args.port, c.in-Ok.context)) c.len-numbers_ascend.ensures.ascend
    (puts-ascends c.append.new.questions c.remove.new.self (c.self.inside.sequence + 1) None c.remove.ensures.puts (subst IsAscending (sym c.in-Err.ensures.err.1) (puts-ascends c.self.inside.questions c.insert.new.self (c.self.inside.sequence + 1) _ (subst (λ r. PutsAt c.self.inside.questions c.insert.new.self (c.self.inside.sequence + 1) (Some (r, c.in-Ok.context))) c.new-row.ensures c.insert.ensures.puts) c.len-numbers_ascend.ensures.ascend)))
    (subst (λ r. PutsAt c.self.inside.questions c.insert.new.self (c.self.inside.sequence + 1) (Some (r, c.in-Ok.context))) c.new-row.ensures c.insert.ensures.puts)
    (subst (λ o. PutsAt c.insert.new.self c.remove.new.self (c.self.inside.sequence + 1) o) (sym (new-question c.self.inside.boot c.self.inside.sequence c.self.inside.questions c.self.inside.pended c.self.inside.contexts c.self.invariant.rows))
    (subst (λ q. PutsAt q c.remove.new.self (c.self.inside.sequence + 1) None) c.in-Err.ensures.err.1 c.remove.ensures.puts))) in
    rw (← c.self.view_is)
    (λ i. record {
      mode = t.mode;
      limits = t.limits;
      boot = t.boot;
      sequence = t.sequence;
      connected = t.connected;
      floor = t.floor;
      contexts = states (k i);
      questions = questions_of t.boot (q i);
      pended = pended_of t.boot (c.in-Err.ensures.err.0 i);
      cache = t.cache.entries;
    })

pub invariant_of-self-2 : goal.invariant_of-self-2
invariant_of-self-2 c = record {
  rows = (let m = c.self.inside.sequence + 1 in
      let a = (asks c.self.inside.boot c.self.inside.sequence c.self.inside.questions c.insert.new.self c.self.inside.pended c.self.inside.contexts c.hold.new.self c.args.port c.args.stream c.args.generation c.in-Ok.context
      c.self.invariant.rows c.in-Ok.ensures.ascend (unasked-of c.self.inside.boot c.args.stream c.self.inside.questions (subst (λ t. question_of c.args.stream t.questions ≡ None) (sym c.self.view_is) c.requires.none)) c.in-Ok.ensures.ok (subst (λ r. PutsAt c.self.inside.questions c.insert.new.self (c.self.inside.sequence + 1) (Some (r, c.in-Ok.context))) c.new-row.ensures c.insert.ensures.puts)) in
      rows-kept c.self.inside.boot m c.insert.new.self c.append.new.questions c.self.inside.pended c.append.new.pended c.hold.new.self a.consistent c.append.ensures.chained
      (numbered-result c.append.result m c.get-number.result c.args.held c.insert.new.self c.append.new.questions c.self.inside.pended c.append.new.pended c.self.invariant.rows.numbered
      (c.get-number.ensures ∙ c.open_id.ensures) c.append.ensures.ok c.append.ensures.keys c.append.ensures.err)
      (unasked-result c.append.result c.self.inside.boot m m c.args.held c.insert.new.self c.append.new.questions c.self.inside.pended c.append.new.pended c.hold.new.self a.consistent
      (is_there (at c.insert.new.self m) (asked_about c.args.stream c.args.generation c.args.port, c.in-Ok.context) (subst (λ r. PutsAt c.self.inside.questions c.insert.new.self (c.self.inside.sequence + 1) (Some (r, c.in-Ok.context))) c.new-row.ensures c.insert.ensures.puts).here) c.append.ensures.ok c.append.ensures.err)
      c.append.ensures.same);
  mounted = c.self.invariant.mounted;
  few = still-few c.insert.new.self c.append.new.questions c.self.inside.limits.questions c.append.ensures.same
      (still-allowed c.self.inside.boot c.self.inside.limits.questions c.self.inside.questions c.insert.new.self (c.self.inside.sequence + 1, (c.new-row.result, c.in-Ok.context)) (subst (λ t. length t.questions < t.limits.questions) (sym c.self.view_is) c.requires.room) c.insert.ensures.whole);
  sized = c.self.invariant.sized;
}

pub returns-clause-ok : goal.returns-clause-ok
returns-clause-ok c =
    let t = c.self.inside in
    let m = t.sequence + 1 in
    let a = (asks c.self.inside.boot c.self.inside.sequence c.self.inside.questions c.insert.new.self c.self.inside.pended c.self.inside.contexts c.hold.new.self c.args.port c.args.stream c.args.generation c.in-Ok.context
    c.self.invariant.rows c.in-Ok.ensures.ascend (unasked-of c.self.inside.boot c.args.stream c.self.inside.questions (subst (λ t. question_of c.args.stream t.questions ≡ None) (sym c.self.view_is) c.requires.none)) c.in-Ok.ensures.ok (subst (λ r. PutsAt c.self.inside.questions c.insert.new.self (c.self.inside.sequence + 1) (Some (r, c.in-Ok.context))) c.new-row.ensures c.insert.ensures.puts)) in
    let questions = ap (map (asked_of t.boot)) c.append.ensures.same ∙ a.questions in
    let pended = ap (map (held_of t.boot)) c.in_default-append.ensures.ok ∙ pended-end t.boot (plains t.pended) (m, c.args.held) in
    rw (← c.self.view_is)
    (λ i. record {
      mode = t.mode;
      limits = t.limits;
      boot = t.boot;
      sequence = t.sequence + 1;
      connected = t.connected;
      floor = t.floor;
      contexts = a.contexts i;
      questions = questions i;
      pended = pended i;
      cache = t.cache.entries;
    })
