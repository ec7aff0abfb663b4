use Rattle.std.proofs.Common.{◌∷◌, arith, inl, inr, sym, ap, ◌∙◌, rules, refl}
use Rattle.std.specs.Option.{option_copied}
use Rattle.av_base.specs.Line.{rest_of}
use Rattle.av_sigset.proofs.JudgeLemmas.{all_judged, unended, wordless, repeated, crowded, one_judged}
use Rattle.av_sigset.proofs.ReadLemmas.{empty_of, some_of}
use Rattle.av_sigset.proofs.judge.fault_in.Goals as goal
use Rattle.av_sigset.proofs.judge.fault_in.Goals.{then-count-ge-MAX_SIGNATURES-via-then-count-ge-MAX_SIGNATURES, then-count-ge-MAX_SIGNATURES-via-else-count-ge-MAX_SIGNATURES+then-total-words-gt-MAX_BYTES}

pub overflow_add-number : goal.overflow_add-number
overflow_add-number c = omega (arith, c.lines.invariant.few)

pub returns-in_default : goal.returns-in_default
returns-in_default c =
    unended _ _ _ _ _ c.lines.invariant c.first_piece.result.0.now (some_of c.lines.rest.now (sym c.is_empty.ensures ∙ c.lines-test.true))
    (c.first_piece.ensures.pieces ∙ ap (λ o. c.first_piece.result.0.now ∷ rest_of 10 (option_copied o)) c.in_default.is) ∙ search rules

pub returns-in-Err : goal.returns-in-Err
returns-in-Err c =
    wordless _ _ _ _ _ c.lines.invariant c.first_piece.result.0.now c.in-Some.below.now (c.first_piece.ensures.pieces ∙ ap (λ o. c.first_piece.result.0.now ∷ rest_of 10 (option_copied o)) c.in-Some.is)
    c.in-Err.kind c.in-Err.ensures.fault ∙ search rules

pub returns-then-begins_one_of : goal.returns-then-begins_one_of
returns-then-begins_one_of c =
    repeated _ _ _ _ _ c.lines.invariant c.first_piece.result.0.now c.in-Some.below.now (c.first_piece.ensures.pieces ∙ ap (λ o. c.first_piece.result.0.now ∷ rest_of 10 (option_copied o)) c.in-Some.is)
    c.in-Ok.words.name.now c.in-Ok.words.digits.now c.in-Ok.words.span c.in-Ok.ensures.words (sym c.begins_one_of.ensures ∙ c.if-begins_one_of.true) ∙ search rules

pub returns-then-count-ge-MAX_SIGNATURES : goal.returns-then-count-ge-MAX_SIGNATURES
returns-then-count-ge-MAX_SIGNATURES c =
    let crowd = crowded _ _ _ _ _ c.lines.invariant c.first_piece.result.0.now c.in-Some.below.now (c.first_piece.ensures.pieces ∙ ap (λ o. c.first_piece.result.0.now ∷ rest_of 10 (option_copied o)) c.in-Some.is)
    c.in-Ok.words.name.now c.in-Ok.words.digits.now c.in-Ok.words.span c.in-Ok.ensures.words (sym c.begins_one_of.ensures ∙ c.if-begins_one_of.false) in
    elim c.then-count-ge-MAX_SIGNATURES.branch [
      | then-count-ge-MAX_SIGNATURES-via-then-count-ge-MAX_SIGNATURES w ↦ crowd (inl (omega arith)) ∙ search rules
      | then-count-ge-MAX_SIGNATURES-via-else-count-ge-MAX_SIGNATURES+then-total-words-gt-MAX_BYTES w ↦ crowd (inr (omega arith)) ∙ search rules
    ]

pub lines-preserved : goal.lines-preserved
lines-preserved c =
    one_judged _ _ _ _ _ c.lines.invariant c.first_piece.result.0.now c.in-Some.below.now (c.first_piece.ensures.pieces ∙ ap (λ o. c.first_piece.result.0.now ∷ rest_of 10 (option_copied o)) c.in-Some.is)
    c.in-Ok.words.name.now c.in-Ok.words.digits.now c.in-Ok.words.span c.in-Ok.ensures.words (sym c.begins_one_of.ensures ∙ c.if-begins_one_of.false) (omega arith) (omega arith)

pub returns : goal.returns
returns c = rw (all_judged _ _ _ _ _ c.lines.invariant (empty_of c.lines.rest.now (sym c.is_empty.ensures ∙ c.lines-test.false))) refl
