use Rattle.std.proofs.Common.{◌≡◌, ◌++◌, ◌∷◌, [], map, rules, subst}
use Rattle.std.proofs.lemmas.List.{drop_all, drop_more}
use Rattle.av_status.specs.Tally.{with_missed}
use Rattle.av_status.specs.declared.status.Status.TheVariants.{Refused}
use Rattle.av_files.specs.Listed.{AreGivenAndListed}
use Rattle.av_files.proofs.PieceLemmas.{bad_counted, bad_more, counted_all, names_all, none_listed, text_counted, text_more}
use Rattle.av_files.proofs.listed.with_listed.Goals as goal

pub loop-before-preserved : goal.loop-before-preserved
loop-before-preserved g c =
    let next = drop_more c.deref-bytes-items.result.now c.loop-before.before (record { ref_ptr = (0, 0); now = [] }) c.loop-before-test.true in
    let text = c.in-Ok.ensures.cases in
    let pushed : c.push.new.self.items ≡ c.loop-before.names.items ++ c.in-Ok.name ∷ [] = search rules in (
      rw pushed (text_more _ _ _ next c.loop-before.names.items c.in-Ok.name _ text.0 text.1 c.loop-before.invariant.0),
      text_counted _ _ _ next c.loop-before.tally _ text.1 c.loop-before.invariant.1,
      c.loop-before.invariant.2,
    )

pub loop-before-preserved-in_default-from_utf8 : goal.loop-before-preserved-in_default-from_utf8
loop-before-preserved-in_default-from_utf8 g c =
    let next = drop_more c.deref-bytes-items.result.now c.loop-before.before (record { ref_ptr = (0, 0); now = [] }) c.loop-before-test.true in
    let not = c.in_default-from_utf8.ensures.cases.0 in
    let missed : c.add_missed.new.self ≡ with_missed c.loop-before.tally Refused = search rules in (
      bad_more _ _ _ next _ _ not c.loop-before.invariant.0,
      rw missed (bad_counted _ _ _ next c.loop-before.tally _ not c.loop-before.invariant.1),
      λ ends. absurd (search rules),
    )

pub returns-clause-names : goal.returns-clause-names
returns-clause-names g c =
    let none = drop_all c.loop-before.before c.deref-bytes-items.result.now c.loop-before-test.false in
    record {
      listed = map (λ n. n.now) c.deref-bytes-items.result.now;
      of_text = search rules;
      all = names_all _ _ _ none c.loop-before.invariant.0;
      counted = counted_all _ _ _ none c.loop-before.invariant.1;
    }

pub returns-clause-alone : goal.returns-clause-alone
returns-clause-alone g c = λ empty.
    none_listed _ _ _ _ _ (subst (λ text. AreGivenAndListed c.args.list.end text (map (λ n. n.now) c.args.given.now) (map (λ n. n.now) c.loop-before.names.items) c.args.tally.now c.loop-before.tally) empty (returns-clause-names g c))
