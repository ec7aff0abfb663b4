use Rattle.std.proofs.Common.{◌≡◌, ◌<◌, true, [], length, arith, below_more, sym, ap, ◌∙◌}
use Rattle.std.proofs.lemmas.List.{get_or_default}
use Rattle.av_match.specs.Words.{word_at, is_word}
use Rattle.av_match.proofs.WordLemmas.{is_word-old, is_word-new}
use Rattle.av_match.proofs.shifts.shorter.Goals as goal
use Rattle.av_match.proofs.shifts.shorter.Goals.{then-as_slice-least+in_ok-clone+in_ok-push, else-as_slice-least}

pub loop-pattern-preserved : goal.loop-pattern-preserved
loop-pattern-preserved c =
    let ps = c.args.patterns.now in
    let index = c.loop-pattern.pattern-index in
    let same : c.pattern-item.result ≡ word_at ps index = c.pattern-item.is ∙ get_or_default ps index c.pattern-item.result [] c.loop-pattern-test.true in
    let count : length c.as_slice.result.now ≡ length (word_at ps index) = ap length (c.as_slice.ensures ∙ same) in
    elim c.if-as_slice-least.branch [
      | then-as_slice-least+in_ok-clone+in_ok-push w ↦
          let items = ap (λ v. v.items) w.shorts-is ∙ w.in_ok-push.ensures.items in
          let one = w.in_ok-clone.ensures.cases ∙ same in
          below_more (λ j. length (word_at ps j) < c.args.least → is_word c.if-as_slice-least.shorts.items (word_at ps j) ≡ true) index
          (λ j l less. ap (λ s. is_word s (word_at ps j)) items ∙ is_word-old c.loop-pattern.shorts.items w.in_ok-clone.field-0 (word_at ps j) (c.loop-pattern.invariant j l less))
          (λ less. ap (λ s. is_word s (word_at ps index)) items ∙ ap (is_word _) (sym one) ∙ is_word-new c.loop-pattern.shorts.items w.in_ok-clone.field-0)
      | else-as_slice-least w ↦
          below_more (λ j. length (word_at ps j) < c.args.least → is_word c.if-as_slice-least.shorts.items (word_at ps j) ≡ true) index
          (λ j l less. ap (λ v. is_word v.items (word_at ps j)) w.shorts-is ∙ c.loop-pattern.invariant j l less)
          (λ less. absurd (omega (arith, count, w.if-as_slice-least.false, less)))
    ]
