use Rattle.std.proofs.Common.{◌≡◌, None, sym, subst}
use Rattle.av_filter_table.specs.FilterTable.{questions_of, pended_of}
use Rattle.av_filter_table.specs.Table.{question_of}
use Rattle.av_filter_table.proofs.TableLemmas.{unasked-of, sets}
use Rattle.av_filter_table.proofs.filter_table.FilterTable.set_state.Goals as goal

pub invariant_of-self-2 : goal.invariant_of-self-2
invariant_of-self-2 c = record {
  rows = ((sets c.self.inside.boot c.self.inside.sequence c.self.inside.questions c.self.inside.pended c.self.inside.contexts c.hold.new.self c.release.new.self c.args.stream c.in_ok-context.context c.args.state c.self.invariant.rows c.in_ok-context.ensures.ascend (unasked-of c.self.inside.boot c.args.stream c.self.inside.questions (subst (λ t. question_of c.args.stream t.questions ≡ None) (sym c.self.view_is) c.requires)) c.in_ok-context.ensures.ok c.release.ensures).consistent);
  mounted = c.self.invariant.mounted;
  few = c.self.invariant.few;
  sized = c.self.invariant.sized;
}

pub returns-clause-ok : goal.returns-clause-ok
returns-clause-ok c =
    let t = c.self.inside in
    let s = sets c.self.inside.boot c.self.inside.sequence c.self.inside.questions c.self.inside.pended c.self.inside.contexts c.hold.new.self c.release.new.self c.args.stream c.in_ok-context.context c.args.state c.self.invariant.rows c.in_ok-context.ensures.ascend (unasked-of c.self.inside.boot c.args.stream c.self.inside.questions (subst (λ t. question_of c.args.stream t.questions ≡ None) (sym c.self.view_is) c.requires)) c.in_ok-context.ensures.ok c.release.ensures in
    rw (← c.self.view_is)
    (λ i. record {
      mode = t.mode;
      limits = t.limits;
      boot = t.boot;
      sequence = t.sequence;
      connected = t.connected;
      floor = t.floor;
      contexts = s.contexts i;
      questions = questions_of t.boot t.questions;
      pended = pended_of t.boot t.pended;
      cache = t.cache.entries;
    })
