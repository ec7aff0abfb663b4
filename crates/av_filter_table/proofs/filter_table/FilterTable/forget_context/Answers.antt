use Rattle.std.proofs.Common.{◌≡◌, None, sym, subst}
use Rattle.av_filter_table.specs.FilterTable.{questions_of, pended_of}
use Rattle.av_filter_table.specs.Table.{question_of}
use Rattle.av_filter_table.proofs.EndingLemmas.{forgot}
use Rattle.av_filter_table.proofs.TableLemmas.{unasked-of}
use Rattle.av_filter_table.proofs.filter_table.FilterTable.forget_context.Goals as goal

pub detach-requires : goal.detach-requires
detach-requires c =
    c.self.invariant.rows.free c.args.stream (unasked-of c.self.inside.boot c.args.stream c.self.inside.questions (subst (λ t. question_of c.args.stream t.questions ≡ None) (sym c.self.view_is) c.requires))

pub invariant_of-self : goal.invariant_of-self
invariant_of-self c = record {
  rows = (forgot c.self.inside.boot c.self.inside.sequence c.self.inside.questions c.self.inside.pended c.self.inside.contexts c.detach.new.self c.args.stream c.self.invariant.rows
      (unasked-of c.self.inside.boot c.args.stream c.self.inside.questions (subst (λ t. question_of c.args.stream t.questions ≡ None) (sym c.self.view_is) c.requires)) c.detach.ensures).consistent;
  mounted = c.self.invariant.mounted;
  few = c.self.invariant.few;
  sized = c.self.invariant.sized;
}

pub returns : goal.returns
returns c =
    let t = c.self.inside in
    let f = forgot c.self.inside.boot c.self.inside.sequence c.self.inside.questions c.self.inside.pended c.self.inside.contexts c.detach.new.self c.args.stream c.self.invariant.rows
    (unasked-of c.self.inside.boot c.args.stream c.self.inside.questions (subst (λ t. question_of c.args.stream t.questions ≡ None) (sym c.self.view_is) c.requires)) c.detach.ensures in
    rw (← c.self.view_is)
    (λ i. record {
      mode = t.mode;
      limits = t.limits;
      boot = t.boot;
      sequence = t.sequence;
      connected = t.connected;
      floor = t.floor;
      contexts = f.contexts i;
      questions = questions_of t.boot t.questions;
      pended = pended_of t.boot t.pended;
      cache = t.cache.entries;
    })
