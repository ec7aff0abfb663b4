-- How long what is spelled of contents in parts is.
use Rattle.std.proofs.Common.{ℕ, ◌≡◌, ◌+◌, ◌≤◌, List, ◌∷◌, ◌++◌, length, nat_eq, nat_lt, false, Ok, refl, ◌∙◌, ap, arith, append_assoc}
use Rattle.std.proofs.lemmas.Bool.{le-ltb}
use Rattle.std.proofs.lemmas.Bool.Decides.{nat_tests}
use Rattle.av_asks.specs.declared.sizes.TheConstants.{MAX_LABEL, MAX_PART}
use Rattle.av_asks.specs.declared.contents.How.{How}
use Rattle.av_asks.specs.declared.large_answer.LargeAnswer.{LargeAnswer}
use Rattle.av_asks.specs.declared.large_answer.LargeAnswer.TheVariants.{Denied, Unscanned}
use Rattle.av_asks.specs.Contents.{begin_body, begin_written, end_body, part_body, part_written}
use Rattle.av_asks.specs.LargeAnswers.{large_body, large_size}
use Rattle.av_asks.specs.Spelling.{field4, field8, framed}

pub length-large_body : (a : LargeAnswer) → length (large_body a) ≡ large_size a
unfolding field8
length-large_body (Denied tag cause) = refl
length-large_body (Unscanned tag generation cause) = refl

-- a frame is written: its length, and then its body
pub framed_by : (body old mid new : List ℕ) (size : ℕ) → size ≡ length body → mid ≡ old ++ field4 size → new ≡ mid ++ body → new ≡ old ++ framed body
framed_by body old mid new size is first second =
    second ∙ ap (λ xs. xs ++ body) (first ∙ ap (λ n. old ++ field4 n) is) ∙ append_assoc old (field4 (length body)) body

pub length-begin_body : (tag : ℕ) (label : List ℕ) → length (begin_body tag label) ≡ 10 + length label
unfolding field8
length-begin_body tag label = omega arith

pub length-part_body : (tag : ℕ) (some : List ℕ) → length (part_body tag some) ≡ 9 + length some
unfolding field8
length-part_body tag some = omega arith

pub length-end_body : (tag : ℕ) (how : How) (count : ℕ) → length (end_body tag how count) ≡ 18
unfolding field8
length-end_body tag how count = refl

-- .. its length, kind and tag, and then the rest of its body
pub headed_by : (kind size : ℕ) (tag rest old mid new : List ℕ) → size ≡ length (kind ∷ (tag ++ rest)) → mid ≡ old ++ (field4 size ++ kind ∷ tag) → new ≡ mid ++ rest
    → new ≡ old ++ framed (kind ∷ (tag ++ rest))
headed_by kind size tag rest old mid new is first second =
    second ∙ ap (λ xs. xs ++ rest) first ∙ append_assoc old (field4 size ++ kind ∷ tag) rest
    ∙ ap (λ xs. old ++ xs) (append_assoc (field4 size) (kind ∷ tag) rest)
    ∙ ap (λ n. old ++ (field4 n ++ kind ∷ (tag ++ rest))) is

-- what fits is written
pub begin_ok : (out : List ℕ) (tag : ℕ) (label : List ℕ) → length label ≤ MAX_LABEL → begin_written out tag label ≡ Ok (out ++ framed (begin_body tag label))
begin_ok out tag label fits =
    let a : nat_lt MAX_LABEL (length label) ≡ false = le-ltb _ _ fits in
    rw a refl

pub part_ok : (out : List ℕ) (tag : ℕ) (some : List ℕ) → 1 ≤ length some → length some ≤ MAX_PART → part_written out tag some ≡ Ok (out ++ framed (part_body tag some))
part_ok out tag some one fits =
    let a : nat_eq (length some) 0 ≡ false = grind (arith, nat_tests, one) in
    let b : nat_lt MAX_PART (length some) ≡ false = le-ltb _ _ fits in
    rw (a, b) refl
