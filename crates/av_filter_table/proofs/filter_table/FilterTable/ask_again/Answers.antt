use Rattle.std.proofs.Common.{◌≡◌, ◌≤◌, ◌+◌, ◌++◌, IsSome, IsSomeAnd, Option, None, Some, length, vec_len, vec_capacity, filter, arith, sym, ap, subst, ◌∙◌}
use Rattle.std.specs.Option.{option_map}
use Rattle.av_base.specs.declared.cause.Cause.TheVariants.{Unsettled}
use Rattle.av_context.specs.Contexts.{at, PutsAt}
use Rattle.av_context.specs.declared.context_state.ContextState.TheVariants.{Scanning}
use Rattle.av_filter_table.specs.Asking.{asks, is_lost}
use Rattle.av_filter_table.specs.Chains.{of, plains, asked_about, essence}
use Rattle.av_filter_table.specs.Answering.{by_mode, present_generation}
use Rattle.av_filter_table.specs.FilterTable.{id_of, asked_of, questions_of, pended_of}
use Rattle.av_filter_table.specs.StreamContexts.{states, held_of as held_out}
use Rattle.av_filter_table.specs.Table.{Table, question_at, opens_of}
use Rattle.av_filter_table.proofs.AgainLemmas.{asks_again, chained-new, same-key, held-again, lost-refused}
use Rattle.av_numbered.proofs.MapLemmas.{not_there, is_there, row_found}
use Rattle.av_filter_table.proofs.PlainLemmas.{there-kept}
use Rattle.av_filter_table.proofs.RoomLemmas.{room-beside, as-many}
use Rattle.av_filter_table.proofs.TableLemmas.{question-there, question-found, numbers-below, known-at, opens-of, length-held, all-at}
use Rattle.av_filter_table.proofs.filter_table.FilterTable.ask_again.Goals as goal

pub unreachable-requires : goal.unreachable-requires
unreachable-requires c =
    no_row (at c.self.inside.questions c.args.question) (sym c.in_default.ensures)
    (question-there c.self.inside.boot c.args.question c.self.inside.questions c.len-numbers_ascend.ensures.ascend
    (subst (λ t. IsSome (question_at (id_of t.boot c.args.question) t.questions)) (sym c.self.view_is) c.requires.there))
  where
    no_row : {A B : Type 0} (o : Option (A × B)) → option_map (λ y. y.0) o ≡ None → IsSome o → ⊥
    no_row None none some = absurd (cc)
    no_row (Some y) none some = absurd (cc)

pub share-context-requires-clause-there : goal.share-context-requires-clause-there
share-context-requires-clause-there c =
    let t = c.self.inside in
    let found = row_found (at t.questions c.args.question) c.in-Some.asked c.in-Some.ensures in
    is_there (at t.contexts c.in-Some.asked.stream) _ (known-at t.boot t.sequence c.args.question t.questions t.pended t.contexts c.in-Some.asked found.0 c.self.invariant.rows found.1)

pub insert-requires : goal.insert-requires
insert-requires c = record {
  few = room-beside c.self.inside.limits c.self.inside.questions c.values-in_range.ensures.in_range c.self.invariant.few;
  last = numbers-below c.self.inside.boot c.self.inside.sequence c.self.inside.questions c.self.inside.pended c.self.inside.contexts c.self.invariant.rows;
}

pub move_opens-requires-clause-apart : goal.move_opens-requires-clause-apart
move_opens-requires-clause-apart c = λ e.
    let t = c.self.inside in
    let found = row_found (at t.questions c.args.question) c.in-Some.asked c.in-Some.ensures in
    let low : c.args.question ≤ t.sequence = all-at (λ j. j ≤ t.sequence) t.questions c.args.question c.self.invariant.rows.asked (is_there (at t.questions c.args.question) (c.in-Some.asked, found.0) found.1) in
    absurd (omega arith)

pub move_opens-requires-clause-chained : goal.move_opens-requires-clause-chained
move_opens-requires-clause-chained c =
    let t = c.self.inside in
    chained-new t.boot t.sequence c.args.port c.in-Some.asked.stream c.generation_now-generation.result c.share-context.result t.questions c.insert.new.self t.pended t.contexts c.self.invariant.rows (subst (λ r. PutsAt t.questions c.insert.new.self (t.sequence + 1) (Some (r, c.share-context.result))) c.new-row.ensures c.insert.ensures.puts)

pub move_opens-requires-clause-room : goal.move_opens-requires-clause-room
move_opens-requires-clause-room c =
    let t = c.self.inside in
    let n = c.args.question in
    let count : length (opens_of (id_of t.boot n) (pended_of t.boot t.pended)) ≡ length (of n (plains t.pended)) = ap length (opens-of t.boot n (plains t.pended)) ∙ length-held t.boot (of n (plains t.pended)) in
    subst (λ l. vec_len c.args.answers.now + l ≤ vec_capacity c.args.answers.now) count
    (subst (λ u. vec_len c.args.answers.now + length (opens_of (id_of u.boot n) u.pended) ≤ vec_capacity c.args.answers.now) (sym c.self.view_is) c.requires.room)

pub unreachable-requires-in_default-remove : goal.unreachable-requires-in_default-remove
unreachable-requires-in_default-remove c =
    let t = c.self.inside in
    let n = c.args.question in
    let found = row_found (at t.questions n) c.in-Some.asked c.in-Some.ensures in
    let low : n ≤ t.sequence = all-at (λ j. j ≤ t.sequence) t.questions n c.self.invariant.rows.asked (is_there (at t.questions n) (c.in-Some.asked, found.0) found.1) in
    let old : at c.insert.new.self n ≡ Some (c.in-Some.asked, found.0) = (subst (λ r. PutsAt t.questions c.insert.new.self (t.sequence + 1) (Some (r, c.share-context.result))) c.new-row.ensures c.insert.ensures.puts).others n (λ e. absurd (omega arith)) ∙ found.1 in
    not_there (at c.move_opens.new.questions n) (sym c.in_default-remove.ensures.value) (there-kept c.insert.new.self c.move_opens.new.questions n c.move_opens.ensures.same (is_there (at c.insert.new.self n) (c.in-Some.asked, found.0) old))

pub release-requires : goal.release-requires
release-requires c =
    let t = c.self.inside in
    let n = c.args.question in
    let m = t.sequence + 1 in
    let s = c.in-Some.asked.stream in
    let found = row_found (at t.questions n) c.in-Some.asked c.in-Some.ensures in
    let before = known-at t.boot t.sequence n t.questions t.pended t.contexts c.in-Some.asked found.0 c.self.invariant.rows found.1 in
    let key_is = held-again t.boot t.sequence n t.contexts s found.0 c.share-context.result before c.share-context.ensures.same in
    let low : n ≤ t.sequence = all-at (λ j. j ≤ t.sequence) t.questions n c.self.invariant.rows.asked (is_there (at t.questions n) (c.in-Some.asked, found.0) found.1) in
    let old : at c.insert.new.self n ≡ Some (c.in-Some.asked, found.0) = (subst (λ r. PutsAt t.questions c.insert.new.self (t.sequence + 1) (Some (r, c.share-context.result))) c.new-row.ensures c.insert.ensures.puts).others n (λ e. absurd (omega arith)) ∙ found.1 in
    let same : c.in-Some-remove.context ≡ found.0 = same-key n c.insert.new.self c.move_opens.new.questions c.in-Some.asked c.in-Some-remove._ended found.0 c.in-Some-remove.context c.move_opens.ensures.same old c.in-Some-remove.ensures.value in
    subst (λ o. IsSomeAnd o (λ m. (m.key ≡ c.in-Some-remove.context) × (1 ≤ m.held))) (sym c.share-context.ensures.puts.here) (sym key_is ∙ sym same, omega arith)

pub invariant_of-self : goal.invariant_of-self
invariant_of-self c = record {
  rows = (let t = c.self.inside in
      let n = c.args.question in
      let m = t.sequence + 1 in
      let s = c.in-Some.asked.stream in
      let found = row_found (at t.questions n) c.in-Some.asked c.in-Some.ensures in
      let before = known-at t.boot t.sequence n t.questions t.pended t.contexts c.in-Some.asked found.0 c.self.invariant.rows found.1 in
      let key_is = held-again t.boot t.sequence n t.contexts s found.0 c.share-context.result before c.share-context.ensures.same in
      let v = c.args.volume.now in
      let a = asks_again t.boot t.sequence n c.args.port (present_generation v s) t.questions c.insert.new.self c.move_opens.new.questions c.remove.new.self t.pended c.move_opens.new.pended t.contexts c.share-context.new.self c.release.new.self c.in-Some.asked found.0
      c.self.invariant.rows c.len-numbers_ascend.ensures.ascend c.share-context.ensures.ascend found.1
      (subst (λ j. PutsAt t.contexts c.share-context.new.self s (Some (record { key = j; state = Scanning (id_of t.boot m); held = held_out (at t.contexts s) + 1 }))) (sym key_is) c.share-context.ensures.puts)
      (subst (λ g. PutsAt t.questions c.insert.new.self m (Some (asked_about s g c.args.port, found.0))) c.generation_now-generation.ensures (subst (λ j. PutsAt t.questions c.insert.new.self m (Some (asked_about s c.generation_now-generation.result c.args.port, j))) (sym key_is) (subst (λ r. PutsAt t.questions c.insert.new.self (t.sequence + 1) (Some (r, c.share-context.result))) c.new-row.ensures c.insert.ensures.puts)))
      c.move_opens.ensures.same c.move_opens.ensures.chained (c.move_opens.ensures.numbered c.self.invariant.rows.numbered) c.move_opens.ensures.moved c.remove.ensures.puts c.release.ensures in
      a.consistent);
  mounted = c.self.invariant.mounted;
  few =
      let t = c.self.inside in
      as-many t.questions c.insert.new.self c.move_opens.new.questions c.remove.new.self (t.sequence + 1, (c.new-row.result, c.share-context.result)) c.args.question t.limits.questions (c.in-Some-remove._ended, c.in-Some-remove.context)
      c.insert.ensures.whole c.move_opens.ensures.same (sym c.in-Some-remove.ensures.value) c.remove.ensures.puts c.self.invariant.few;
  sized = c.self.invariant.sized;
}

pub returns-clause-answers : goal.returns-clause-answers
returns-clause-answers c =
    let t = c.self.inside in
    let n = c.args.question in
    let v = c.args.volume.now in
    let view : Table = record {
      mode = t.mode;
      limits = t.limits;
      boot = t.boot;
      sequence = t.sequence;
      connected = t.connected;
      floor = t.floor;
      contexts = states t.contexts;
      questions = questions_of t.boot t.questions;
      pended = pended_of t.boot t.pended;
      cache = t.cache.entries;
    } in
    subst (λ u. c.move_opens.new.answers.items ≡ c.args.answers.now.items ++ by_mode u v Unsettled (filter (is_lost (id_of u.boot n)) u.pended)) c.self.view_is
    (c.move_opens.ensures.answers ∙ ap (λ l. c.args.answers.now.items ++ l) (lost-refused view v Unsettled t.boot n (plains t.pended)))

pub returns-clause-table : goal.returns-clause-table
unfolding asks
returns-clause-table c =
    let t = c.self.inside in
    let n = c.args.question in
    let m = t.sequence + 1 in
    let s = c.in-Some.asked.stream in
    let found = row_found (at t.questions n) c.in-Some.asked c.in-Some.ensures in
    let before = known-at t.boot t.sequence n t.questions t.pended t.contexts c.in-Some.asked found.0 c.self.invariant.rows found.1 in
    let key_is = held-again t.boot t.sequence n t.contexts s found.0 c.share-context.result before c.share-context.ensures.same in
    let v = c.args.volume.now in
    let a = asks_again t.boot t.sequence n c.args.port (present_generation v s) t.questions c.insert.new.self c.move_opens.new.questions c.remove.new.self t.pended c.move_opens.new.pended t.contexts c.share-context.new.self c.release.new.self c.in-Some.asked found.0
    c.self.invariant.rows c.len-numbers_ascend.ensures.ascend c.share-context.ensures.ascend found.1
    (subst (λ j. PutsAt t.contexts c.share-context.new.self s (Some (record { key = j; state = Scanning (id_of t.boot m); held = held_out (at t.contexts s) + 1 }))) (sym key_is) c.share-context.ensures.puts)
    (subst (λ g. PutsAt t.questions c.insert.new.self m (Some (asked_about s g c.args.port, found.0))) c.generation_now-generation.ensures (subst (λ j. PutsAt t.questions c.insert.new.self m (Some (asked_about s c.generation_now-generation.result c.args.port, j))) (sym key_is) (subst (λ r. PutsAt t.questions c.insert.new.self (t.sequence + 1) (Some (r, c.share-context.result))) c.new-row.ensures c.insert.ensures.puts)))
    c.move_opens.ensures.same c.move_opens.ensures.chained (c.move_opens.ensures.numbered c.self.invariant.rows.numbered) c.move_opens.ensures.moved c.remove.ensures.puts c.release.ensures in
    rw (← c.self.view_is, question-found t.boot n t.questions c.len-numbers_ascend.ensures.ascend ∙ ap (option_map (λ y. asked_of t.boot (n, essence y))) found.1)
    (λ i. record {
      mode = t.mode;
      limits = t.limits;
      boot = t.boot;
      sequence = t.sequence + 1;
      connected = t.connected;
      floor = t.floor;
      contexts = a.contexts i;
      questions = a.questions i;
      pended = a.pended i;
      cache = t.cache.entries;
    })

pub returns-clause-capacity : goal.returns-clause-capacity
returns-clause-capacity c = c.move_opens.ensures.capacity
