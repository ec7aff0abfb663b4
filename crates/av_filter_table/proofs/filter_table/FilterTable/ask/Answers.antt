use Rattle.std.proofs.Common.{◌≡◌, ◌+◌, ◌<◌, length, None, Some, sym, subst}
use Rattle.av_context.specs.Contexts.{PutsAt}
use Rattle.av_filter_table.specs.FilterTable.{pended_of}
use Rattle.av_filter_table.specs.Table.{question_of}
use Rattle.av_filter_table.proofs.RoomLemmas.{room-for_one, still-allowed}
use Rattle.av_filter_table.proofs.TableLemmas.{unasked-of, numbers-below, asks}
use Rattle.av_filter_table.proofs.filter_table.FilterTable.ask.Goals as goal

pub insert-requires : goal.insert-requires
insert-requires c = record {
  few = room-for_one c.self.inside.limits c.self.inside.boot c.self.inside.questions c.values-in_range.ensures.in_range (subst (λ t. length t.questions < t.limits.questions) (sym c.self.view_is) c.requires.room);
  last = numbers-below c.self.inside.boot c.self.inside.sequence c.self.inside.questions c.self.inside.pended c.self.inside.contexts c.self.invariant.rows;
}

pub invariant_of-self-2 : goal.invariant_of-self-2
invariant_of-self-2 c = record {
  rows = ((asks c.self.inside.boot c.self.inside.sequence c.self.inside.questions c.insert.new.self c.self.inside.pended c.self.inside.contexts c.hold.new.self c.args.port c.args.stream c.args.generation c.in_ok-context.context
      c.self.invariant.rows c.in_ok-context.ensures.ascend (unasked-of c.self.inside.boot c.args.stream c.self.inside.questions (subst (λ t. question_of c.args.stream t.questions ≡ None) (sym c.self.view_is) c.requires.none)) c.in_ok-context.ensures.ok (subst (λ r. PutsAt c.self.inside.questions c.insert.new.self (c.self.inside.sequence + 1) (Some (r, c.in_ok-context.context))) c.new-row.ensures c.insert.ensures.puts)).consistent);
  mounted = c.self.invariant.mounted;
  few = still-allowed c.self.inside.boot c.self.inside.limits.questions c.self.inside.questions c.insert.new.self (c.self.inside.sequence + 1, (c.new-row.result, c.in_ok-context.context)) (subst (λ t. length t.questions < t.limits.questions) (sym c.self.view_is) c.requires.room) c.insert.ensures.whole;
  sized = c.self.invariant.sized;
}

pub returns-clause-ok : goal.returns-clause-ok
returns-clause-ok c =
    let t = c.self.inside in
    let a = asks c.self.inside.boot c.self.inside.sequence c.self.inside.questions c.insert.new.self c.self.inside.pended c.self.inside.contexts c.hold.new.self c.args.port c.args.stream c.args.generation c.in_ok-context.context
    c.self.invariant.rows c.in_ok-context.ensures.ascend (unasked-of c.self.inside.boot c.args.stream c.self.inside.questions (subst (λ t. question_of c.args.stream t.questions ≡ None) (sym c.self.view_is) c.requires.none)) c.in_ok-context.ensures.ok (subst (λ r. PutsAt c.self.inside.questions c.insert.new.self (c.self.inside.sequence + 1) (Some (r, c.in_ok-context.context))) c.new-row.ensures c.insert.ensures.puts) in
    rw (← c.self.view_is)
    (λ i. record {
      mode = t.mode;
      limits = t.limits;
      boot = t.boot;
      sequence = t.sequence + 1;
      connected = t.connected;
      floor = t.floor;
      contexts = a.contexts i;
      questions = a.questions i;
      pended = pended_of t.boot t.pended;
      cache = t.cache.entries;
    })
