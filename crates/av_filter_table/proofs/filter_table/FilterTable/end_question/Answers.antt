use Rattle.std.proofs.Common.{◌≡◌, ◌≤◌, IsSome, IsSomeAnd, [], arith, refl, sym, ap, subst, ◌∙◌}
use Rattle.std.specs.Option.{option_map}
use Rattle.av_filter_table.specs.Chains.{essence}
use Rattle.av_filter_table.specs.FilterTable.{id_of, asked_of}
use Rattle.av_filter_table.specs.Table.{question_at, opens_of}
use Rattle.av_filter_table.proofs.RoomLemmas.{fewer-left}
use Rattle.av_filter_table.proofs.TableLemmas.{known-at, ends, all-others, question-found, question-there}
use Rattle.av_context.specs.Contexts.{at}
use Rattle.av_filter_table.specs.Asking.{ended}
use Rattle.av_filter_table.specs.FilterTable.{pended_of}
use Rattle.av_numbered.proofs.MapLemmas.{not_there}
use Rattle.av_filter_table.proofs.filter_table.FilterTable.end_question.Goals as goal

pub unreachable-requires : goal.unreachable-requires
unreachable-requires c =
    not_there (at c.self.inside.questions c.args.question) (sym c.in_default.ensures.value)
    (question-there c.self.inside.boot c.args.question c.self.inside.questions c.len-numbers_ascend.ensures.ascend
    (subst (λ t. IsSome (question_at (id_of t.boot c.args.question) t.questions)) (sym c.self.view_is) c.requires.there))

pub give_back-requires : goal.give_back-requires
give_back-requires c =
    subst (λ o. IsSomeAnd o (λ m. (m.key ≡ c.in-Some.context) × (1 ≤ m.held)))
    (sym (known-at c.self.inside.boot c.self.inside.sequence c.args.question c.self.inside.questions c.self.inside.pended c.self.inside.contexts c.in-Some.asked c.in-Some.context c.self.invariant.rows (sym c.in-Some.ensures.value)))
    (refl, omega arith)

pub invariant_of-self : goal.invariant_of-self
invariant_of-self c = record {
  rows = ((ends c.self.inside.boot c.self.inside.sequence c.args.question c.self.inside.questions c.remove.new.self c.self.inside.pended c.self.inside.contexts c.give_back.new.self c.args.state c.in-Some.asked c.in-Some.context
      c.self.invariant.rows c.len-numbers_ascend.ensures.ascend c.give_back.ensures.ascend (sym c.in-Some.ensures.value) c.remove.ensures.puts c.give_back.ensures.puts).consistent);
  mounted = c.self.invariant.mounted;
  few = fewer-left c.self.inside.questions c.remove.new.self c.args.question c.self.inside.limits.questions (c.in-Some.asked, c.in-Some.context) (sym c.in-Some.ensures.value) c.remove.ensures.puts c.self.invariant.few;
  sized = c.self.invariant.sized;
}

pub returns : goal.returns
unfolding ended
returns c =
    let t = c.self.inside in
    let n = c.args.question in
    let e = ends c.self.inside.boot c.self.inside.sequence c.args.question c.self.inside.questions c.remove.new.self c.self.inside.pended c.self.inside.contexts c.give_back.new.self c.args.state c.in-Some.asked c.in-Some.context
    c.self.invariant.rows c.len-numbers_ascend.ensures.ascend c.give_back.ensures.ascend (sym c.in-Some.ensures.value) c.remove.ensures.puts c.give_back.ensures.puts in
    let none : opens_of (id_of t.boot n) (pended_of t.boot t.pended) ≡ [] = subst (λ u. opens_of (id_of u.boot n) u.pended ≡ []) (sym c.self.view_is) c.requires.none in
    rw (← c.self.view_is, question-found t.boot n t.questions c.len-numbers_ascend.ensures.ascend ∙ ap (option_map (λ y. asked_of t.boot (n, essence y))) (sym c.in-Some.ensures.value))
    (λ i. record {
      mode = t.mode;
      limits = t.limits;
      boot = t.boot;
      sequence = t.sequence;
      connected = t.connected;
      floor = t.floor;
      contexts = e.contexts i;
      questions = e.questions i;
      pended = sym (all-others (id_of t.boot n) (pended_of t.boot t.pended) none) i;
      cache = t.cache.entries;
    })
