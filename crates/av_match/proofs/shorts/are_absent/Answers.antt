use Rattle.std.proofs.Common.{ℕ, ◌≡◌, false, List, [], Option, None, Some, is_some, arith, below_more, sym, ◌∙◌, subst}
use Rattle.std.proofs.lemmas.List.{get_or_default}
use Rattle.memchr.specs.Find.{OccursAt, FindsNeedle}
use Rattle.av_match.specs.Words.{word_at}
use Rattle.av_match.proofs.shorts.are_absent.Goals as goal

-- what was not found occurs nowhere
absent : (hay needle : List ℕ) (r : Option ℕ) → FindsNeedle hay needle 0 r → is_some r ≡ false → (i : ℕ) → OccursAt hay needle i → ⊥
absent hay needle None none is_none i at = none i (omega arith) (omega (arith, at.fits)) at
absent hay needle (Some k) none is_none i at = cc

pub loop-short-preserved : goal.loop-short-preserved
loop-short-preserved c =
    let index = c.loop-short.short-index in
    let same : c.as_slice.result.now ≡ word_at c.args.shorts.now index = c.as_slice.ensures ∙ c.short-item.is ∙ get_or_default c.args.shorts.now index c.short-item.result [] c.loop-short-test.true in
    below_more (λ j. (i : ℕ) → OccursAt c.args.piece.now (word_at c.args.shorts.now j) i → ⊥) index c.loop-short.invariant
    (λ i at. absent c.args.piece.now c.as_slice.result.now c.find.result c.find.ensures (sym c.if-is_some.ensures) i (subst (λ w. OccursAt c.args.piece.now w i) (sym same) at))

pub returns : goal.returns
returns c = λ j l. c.loop-short.invariant j (omega (arith, c.loop-short-test.false))
