use Rattle.std.proofs.Common.{◌≡◌, ◌++◌, ◌∷◌, [], ◌≤◌, IsSomeAnd, arith, refl, sym, ap, subst, ◌∙◌}
use Rattle.av_context.specs.Contexts.{at, with}
use Rattle.av_numbered.specs.Numbered.{IsAscending}
use Rattle.av_filter_table.specs.FilterTable.{questions_of, pended_of}
use Rattle.av_filter_table.specs.StreamContexts.{states}
use Rattle.av_filter_table.proofs.EndingLemmas.{states-ascend}
use Rattle.av_numbered.proofs.BoundedLemmas.{at-end}
use Rattle.av_filter_table.proofs.RoomLemmas.{fewer-left}
use Rattle.av_filter_table.proofs.TableLemmas.{known-at, ends, questions-end}
use Rattle.av_filter_table.proofs.filter_table.FilterTable.pop_question.Goals as goal

pub give_back-requires : goal.give_back-requires
give_back-requires c =
    let t = c.self.inside in
    let x = c.in_ok-seq.last in
    let key = c.in_ok-seq.context in
    let found = ap (λ m. at m c.in_ok-seq.seq) c.in_ok-seq.ensures.some ∙ at-end c.pop_last.new.self c.in_ok-seq.seq (x, key) (subst IsAscending c.in_ok-seq.ensures.some c.len-numbers_ascend.ensures.ascend) in
    subst (λ o. IsSomeAnd o (λ m. (m.key ≡ key) × (1 ≤ m.held))) (sym (known-at t.boot t.sequence c.in_ok-seq.seq t.questions t.pended t.contexts x key c.self.invariant.rows found)) (refl, omega arith)

pub invariant_of-self-2 : goal.invariant_of-self-2
invariant_of-self-2 c = record {
  rows =
      (let t = c.self.inside in
      let x = c.in_ok-seq.last in
      let key = c.in_ok-seq.context in
      let found = ap (λ m. at m c.in_ok-seq.seq) c.in_ok-seq.ensures.some ∙ at-end c.pop_last.new.self c.in_ok-seq.seq (x, key) (subst IsAscending c.in_ok-seq.ensures.some c.len-numbers_ascend.ensures.ascend) in
      (ends t.boot t.sequence c.in_ok-seq.seq t.questions c.pop_last.new.self t.pended t.contexts c.give_back.new.self c.args.state x key
      c.self.invariant.rows c.len-numbers_ascend.ensures.ascend c.give_back.ensures.ascend found c.in_ok-seq.ensures.puts c.give_back.ensures.puts).consistent);
  mounted = c.self.invariant.mounted;
  few =
      let x = c.in_ok-seq.last in
      let key = c.in_ok-seq.context in
      fewer-left c.self.inside.questions c.pop_last.new.self c.in_ok-seq.seq c.self.inside.limits.questions (x, key) (ap (λ m. at m c.in_ok-seq.seq) c.in_ok-seq.ensures.some ∙ at-end c.pop_last.new.self c.in_ok-seq.seq (x, key) (subst IsAscending c.in_ok-seq.ensures.some c.len-numbers_ascend.ensures.ascend)) c.in_ok-seq.ensures.puts c.self.invariant.few;
  sized = c.self.invariant.sized;
}

pub returns-clause-some : goal.returns-clause-some
returns-clause-some c =
    let t = c.self.inside in
    let x = c.in_ok-seq.last in
    let key = c.in_ok-seq.context in
    let found = ap (λ m. at m c.in_ok-seq.seq) c.in_ok-seq.ensures.some ∙ at-end c.pop_last.new.self c.in_ok-seq.seq (x, key) (subst IsAscending c.in_ok-seq.ensures.some c.len-numbers_ascend.ensures.ascend) in
    let e = ends t.boot t.sequence c.in_ok-seq.seq t.questions c.pop_last.new.self t.pended t.contexts c.give_back.new.self c.args.state x key
    c.self.invariant.rows c.len-numbers_ascend.ensures.ascend c.give_back.ensures.ascend found c.in_ok-seq.ensures.puts c.give_back.ensures.puts in
    rw (← c.self.view_is) (
      ap (questions_of t.boot) c.in_ok-seq.ensures.some
          ∙ (questions-end t.boot c.pop_last.new.self (c.in_ok-seq.seq, (x, key))
          ∙ ap (λ y. questions_of t.boot c.pop_last.new.self ++ y ∷ []) (sym c.question.ensures)),
      λ i. record {
        mode = t.mode;
        limits = t.limits;
        boot = t.boot;
        sequence = t.sequence;
        connected = t.connected;
        floor = t.floor;
        contexts = (e.contexts ∙ ap (λ y. with (states t.contexts) y.stream c.args.state) (sym c.question.ensures)) i;
        questions = questions_of t.boot c.pop_last.new.self;
        pended = pended_of t.boot t.pended;
        cache = t.cache.entries;
      },
    )

pub returns-clause-ascend : goal.returns-clause-ascend
returns-clause-ascend c = subst (λ t. IsAscending t.contexts) c.self.view_is (states-ascend c.self.inside.contexts c.give_back.ensures.ascend)
