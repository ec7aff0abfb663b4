-- Answers to contents in parts, spelled and read.
use Rattle.std.proofs.Common.{◌≡◌, ◌≤◌, length, true, Ok, Err, refl, sym, ◌∙◌, ap, arith}
use Rattle.std.specs.Prelude.{Some, slice_index}
use Rattle.std.proofs.lemmas.Nat.{from_be_bytes-to_be_bytes_8}
use Rattle.av_asks.specs.declared.answer.OpenAnswer.{OpenAnswer}
use Rattle.av_asks.specs.declared.large_answer.LargeCause.{LargeCause}
use Rattle.av_asks.specs.declared.content_answer.ContentAnswer.TheVariants.{Open, Large}
use Rattle.av_asks.specs.declared.fault.AnswerFault.TheVariants as fault
use Rattle.av_asks.specs.declared.head.Side.TheVariants.{Answers}
use Rattle.av_asks.specs.declared.large_answer.LargeAnswer.{LargeAnswer}
use Rattle.av_asks.specs.declared.large_answer.LargeAnswer.TheVariants.{Denied, Unscanned}
use Rattle.av_asks.specs.declared.large_answer.LargeCause.TheVariants.{AskAgain, TooLarge, GivenUp, NoParts}
use Rattle.av_asks.specs.declared.sizes.TheConstants.{GRANTED_SIZE}
use Rattle.av_asks.specs.ContentAnswers.{IsContentAnswer, IsLarge, content_answer_front, content_answer_of, content_frame, large_of, or_large, with_large}
use Rattle.av_asks.specs.Head.{fits_kind, fits_size}
use Rattle.av_asks.specs.LargeAnswers.{cause_number, cause_of, large_body}
use Rattle.av_asks.specs.Laws.{IsReadBack}
use Rattle.av_asks.specs.Reading.{answer_of, cause_of as ask_cause_of, denied_of, unscanned_of}
use Rattle.av_asks.specs.Spelling.{IsAnswer, answer_body, field8, number8}
use Rattle.av_asks.proofs.AnswerLemmas.{body_again, kind_fits, size_fits}
use Rattle.av_asks.proofs.BytesLemmas.{length-framed}
use Rattle.av_asks.proofs.FrontLemmas.{IsSized, IsSteady, framed_front, sized_by, steady_by}
use Rattle.av_asks.proofs.HeadLemmas.{framed_head}

pub steady : IsSteady content_answer_front
unfolding content_answer_front
steady a b r e told = steady_by Answers fault.Length fault.Kind content_answer_of a b r e told

pub sized : IsSized content_answer_front
unfolding content_answer_front
sized bytes x size e = sized_by Answers fault.Length fault.Kind content_answer_of bytes x size e

-- a body of a cause that no ask has is no answer to an ask
no_answer : (a : LargeAnswer) → answer_of (large_body a) ≡ Err fault.Cause
unfolding answer_of denied_of unscanned_of ask_cause_of field8
no_answer (Denied tag AskAgain) = refl
no_answer (Denied tag TooLarge) = refl
no_answer (Denied tag GivenUp) = refl
no_answer (Denied tag NoParts) = refl
no_answer (Unscanned tag generation AskAgain) = refl
no_answer (Unscanned tag generation TooLarge) = refl
no_answer (Unscanned tag generation GivenUp) = refl
no_answer (Unscanned tag generation NoParts) = refl

cause_again : (cause : LargeCause) → cause_of (cause_number cause) ≡ Some cause
cause_again AskAgain = refl
cause_again TooLarge = refl
cause_again GivenUp = refl
cause_again NoParts = refl

-- .. and is read as it was spelled
large_again : (a : LargeAnswer) → IsLarge a → large_of (large_body a) ≡ Ok (Large a)
unfolding large_of field8
large_again (Denied tag cause) fits =
    let body = large_body (Denied tag cause) in
    let first : number8 body 1 ≡ tag = from_be_bytes-to_be_bytes_8 tag fits in
    ap (λ n. with_large (Denied n) (cause_of (cause_number cause))) first
    ∙ ap (with_large (Denied tag)) (cause_again cause)
large_again (Unscanned tag generation cause) fits =
    let body = large_body (Unscanned tag generation cause) in
    let first : number8 body 1 ≡ tag = from_be_bytes-to_be_bytes_8 tag fits.0 in
    let second : number8 body 9 ≡ generation = from_be_bytes-to_be_bytes_8 generation fits.1 in
    ap (λ n. with_large (Unscanned n (number8 body 9)) (cause_of (cause_number cause))) first
    ∙ ap (λ n. with_large (Unscanned tag n) (cause_of (cause_number cause))) second
    ∙ ap (with_large (Unscanned tag generation)) (cause_again cause)

large_read : (a : LargeAnswer) → IsLarge a → content_answer_of (large_body a) ≡ Ok (Large a)
unfolding content_answer_of
large_read a fits = ap (or_large (large_body a)) (no_answer a) ∙ large_again a fits

open_read : (a : OpenAnswer) → IsAnswer a → content_answer_of (answer_body a) ≡ Ok (Open a)
unfolding content_answer_of
open_read a fits = ap (or_large (answer_body a)) (body_again a fits)

large_fits : (a : LargeAnswer) → (1 ≤ length (large_body a)) × (length (large_body a) ≤ GRANTED_SIZE) × (fits_size Answers (length (large_body a)) ≡ true)
unfolding field8
large_fits (Denied tag cause) = (omega arith, omega arith, refl)
large_fits (Unscanned tag generation cause) = (omega arith, omega arith, refl)

large_kind : (a : LargeAnswer) → fits_kind Answers (slice_index (large_body a) 0) ≡ true
large_kind (Denied tag cause) = refl
large_kind (Unscanned tag generation cause) = refl

pub read_back : IsReadBack content_answer_front content_frame IsContentAnswer
unfolding content_answer_front
read_back (Open a) more fits =
    let body = answer_body a in
    let size = size_fits a in
    framed_front fault.Length fault.Kind content_answer_of body more _ (Open a)
    (framed_head Answers body more size.0 (omega (arith, size.1)) size.2 (kind_fits a))
    (open_read a fits)
    ∙ ap (λ n. Ok (Some (Open a, n))) (sym (length-framed body))
read_back (Large a) more fits =
    let body = large_body a in
    let size = large_fits a in
    framed_front fault.Length fault.Kind content_answer_of body more _ (Large a)
    (framed_head Answers body more size.0 (omega (arith, size.1)) size.2 (large_kind a))
    (large_read a fits)
    ∙ ap (λ n. Ok (Some (Large a, n))) (sym (length-framed body))
