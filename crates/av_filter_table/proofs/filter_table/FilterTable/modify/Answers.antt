use Rattle.std.proofs.Common.{◌≡◌, ◌+◌, IsSomeAnd, None, sym, ap, subst, refl}
use Rattle.av_context.specs.Contexts.{at}
use Rattle.av_context.specs.declared.context_state.ContextState.TheVariants.{Modified}
use Rattle.av_filter_table.specs.FilterTable.{questions_of, pended_of, IsConsistent}
use Rattle.av_filter_table.specs.StreamContexts.{states, held_of as held_out}
use Rattle.av_filter_table.specs.Table.{question_of}
use Rattle.av_numbered.proofs.MapLemmas.{puts-ascends}
use Rattle.av_filter_table.proofs.RewritingLemmas.{as_it_was}
use Rattle.av_filter_table.proofs.TableLemmas.{unasked-of, sets, undone}
use Rattle.av_filter_table.proofs.filter_table.FilterTable.modify.Goals as goal

pub undo_hold-requires : goal.undo_hold-requires
undo_hold-requires c =
    subst (λ o. IsSomeAnd o (λ m. (m.key ≡ c.in_ok-context.context) × (m.held ≡ 1))) (sym c.in_ok-context.ensures.ok.here)
    (refl, ap (λ n. n + 1) (c.self.invariant.rows.free c.args.stream (unasked-of c.self.inside.boot c.args.stream c.self.inside.questions (subst (λ t. question_of c.args.stream t.questions ≡ None) (sym c.self.view_is) c.requires.none))))

pub invariant_of-self-in-Ok : goal.invariant_of-self-in-Ok
invariant_of-self-in-Ok c = record {
  rows = ((sets c.self.inside.boot c.self.inside.sequence c.self.inside.questions c.self.inside.pended c.self.inside.contexts c.hold.new.self c.release.new.self c.args.stream c.in_ok-context.context Modified c.self.invariant.rows c.in_ok-context.ensures.ascend (unasked-of c.self.inside.boot c.args.stream c.self.inside.questions (subst (λ t. question_of c.args.stream t.questions ≡ None) (sym c.self.view_is) c.requires.none)) c.in_ok-context.ensures.ok c.release.ensures).consistent);
  mounted = c.self.invariant.mounted;
  few = c.self.invariant.few;
  sized = c.self.invariant.sized;
}

pub returns-in-Ok-clause-ok : goal.returns-in-Ok-clause-ok
returns-in-Ok-clause-ok c =
    let t = c.self.inside in
    let s = sets c.self.inside.boot c.self.inside.sequence c.self.inside.questions c.self.inside.pended c.self.inside.contexts c.hold.new.self c.release.new.self c.args.stream c.in_ok-context.context Modified c.self.invariant.rows c.in_ok-context.ensures.ascend (unasked-of c.self.inside.boot c.args.stream c.self.inside.questions (subst (λ t. question_of c.args.stream t.questions ≡ None) (sym c.self.view_is) c.requires.none)) c.in_ok-context.ensures.ok c.release.ensures in
    rw (← c.self.view_is)
    (λ i. record {
      mode = t.mode;
      limits = t.limits;
      boot = t.boot;
      sequence = t.sequence;
      connected = t.connected;
      floor = t.floor;
      contexts = s.contexts i;
      questions = questions_of t.boot t.questions;
      pended = pended_of t.boot t.pended;
      cache = t.cache.entries;
    })

-- the contexts are as they were before the hold
same : (c : goal.After-undo_hold) → c.undo_hold.new.self ≡ c.self.inside.contexts
same c =
    undone c.self.inside.contexts c.hold.new.self c.undo_hold.new.self c.args.stream c.in_ok-context.context
    (record { key = c.in_ok-context.context; state = Modified; held = held_out (at c.self.inside.contexts c.args.stream) + 1 }) c.state_of-old.result
    c.in_ok-context.ensures.ascend
    (puts-ascends c.self.inside.contexts c.hold.new.self c.args.stream _ c.in_ok-context.ensures.ok c.in_ok-context.ensures.ascend)
    (c.self.invariant.rows.free c.args.stream (unasked-of c.self.inside.boot c.args.stream c.self.inside.questions (subst (λ t. question_of c.args.stream t.questions ≡ None) (sym c.self.view_is) c.requires.none))) c.in_ok-context.ensures.same c.state_of-old.ensures c.in_ok-context.ensures.ok
    c.undo_hold.ensures

pub invariant_of-self-in-Err : goal.invariant_of-self-in-Err
invariant_of-self-in-Err c = record {
  rows = (subst (λ k. IsConsistent c.self.inside.boot c.self.inside.sequence c.self.inside.questions c.self.inside.pended k) (sym (same c)) c.self.invariant.rows);
  mounted = c.self.invariant.mounted;
  few = c.self.invariant.few;
  sized = c.self.invariant.sized;
}

pub returns-in-Err-clause-err : goal.returns-in-Err-clause-err
returns-in-Err-clause-err c =
    let t = c.self.inside in (
      rw (← c.self.view_is)
          (λ i. record {
            mode = t.mode;
            limits = t.limits;
            boot = t.boot;
            sequence = t.sequence;
            connected = t.connected;
            floor = t.floor;
            contexts = states (same c i);
            questions = questions_of t.boot t.questions;
            pended = pended_of t.boot t.pended;
            cache = t.cache.entries;
          }),
      as_it_was _ _ _ _ c.in-Err.ensures,
    )
