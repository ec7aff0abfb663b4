-- How long what is spelled is.
use Rattle.std.proofs.Common.{ℕ, ◌≡◌, ◌+◌, List, ◌++◌, length, nat_eq, nat_lt, false, Ok, refl, ◌∙◌, ap, arith, append_assoc}
use Rattle.std.proofs.lemmas.Bool.{le-ltb}
use Rattle.std.proofs.lemmas.Bool.Decides.{nat_tests}
use Rattle.av_parts.specs.declared.sizes.TheConstants.{MAX_PART}
use Rattle.av_parts.specs.declared.word.Said.{Said}
use Rattle.av_parts.specs.declared.word.Said.TheVariants.{Hello, Of}
use Rattle.av_parts.specs.declared.word.Word.TheVariants as word
use Rattle.av_parts.specs.Orders.{Order, Begins, Brings, Ends, Drops}
use Rattle.av_parts.specs.Spelling.{IsSpelled, field4, field8, framed, order_body, order_frame, said_body, said_size, size_of, written}

pub length-framed : (body : List ℕ) → length (framed body) ≡ 4 + length body
unfolding field4
length-framed body = omega arith

pub length-order_body : (o : Order) → length (order_body o) ≡ size_of o
unfolding field8
length-order_body (Begins n) = refl
length-order_body (Brings n some) = omega arith
length-order_body (Ends n count) = refl
length-order_body (Drops n) = refl

pub length-said_body : (said : Said) → length (said_body said) ≡ said_size said
unfolding field4 field8
length-said_body (Hello version) = refl
length-said_body (Of (word.Clean n version count)) = refl
length-said_body (Of (word.Infected n version index end_at)) = refl
length-said_body (Of (word.None n why)) = refl

-- a frame is written: its length, and then its body
pub framed_of : (body old mid new : List ℕ) (size : ℕ) → size ≡ length body → mid ≡ old ++ field4 size → new ≡ mid ++ body → new ≡ old ++ framed body
framed_of body old mid new size is first second =
    second ∙ ap (λ xs. xs ++ body) (first ∙ ap (λ n. old ++ field4 n) is) ∙ append_assoc old (field4 (length body)) body

-- an order that can be spelled is written
pub written_ok : (out : List ℕ) (o : Order) → IsSpelled o → written out o ≡ Ok (out ++ order_frame o)
written_ok out (Begins n) fits = refl
written_ok out (Brings n some) fits =
    let a : nat_eq (length some) 0 ≡ false = grind (arith, nat_tests, fits.0) in
    let b : nat_lt MAX_PART (length some) ≡ false = le-ltb _ _ fits.1 in
    rw (a, b) refl
written_ok out (Ends n count) fits = refl
written_ok out (Drops n) fits = refl
