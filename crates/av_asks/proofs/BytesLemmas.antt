-- Bytes and the numbers in them.
use Rattle.std.proofs.Common.{ℕ, ◌≡◌, ◌+◌, ◌≤◌, ◌<◌, ◌^◌, List, ◌∷◌, ◌++◌, length, take, drop, inl, inr, refl, sym, ◌∙◌, ap, arith, length-drop, drop-cons, add-one}
use Rattle.std.specs.Prelude.{slice_index}
use Rattle.std.specs.Int.{w32, w64, to_be_bytes, from_be_bytes}
use Rattle.std.proofs.lemmas.Nat.{be_bytes_4, be_bytes_8}
use Rattle.std.proofs.lemmas.List.{take-append-drop, length-take, length-take-le, get_or-take, get_or-drop, get_or_past, drop-drop}
use Rattle.std.proofs.lemmas.Bool.{cases_lt}
use Rattle.av_asks.specs.Laws.{AreBytes}
use Rattle.av_asks.specs.Spelling.{field4, field8, framed, number4, number8}

pub bytes_taken : (bytes : List ℕ) (at n : ℕ) → AreBytes bytes → AreBytes (take n (drop at bytes))
bytes_taken bytes at n fits i =
    elim (cases_lt i n) [
      | inl lt ↦ rw (get_or-take n (drop at bytes) i 0 lt, get_or-drop) (fits (at + i))
      | inr le ↦ rw (get_or_past (take n (drop at bytes)) i 0 (omega (arith, length-take n (drop at bytes)))) (omega arith)
    ]

below8 : (bytes : List ℕ) → AreBytes bytes → from_be_bytes w64 bytes < 2 ^ 64
below8 bytes fits = omega (arith, fits 0, fits 1, fits 2, fits 3, fits 4, fits 5, fits 6, fits 7)

pub number8-lt : (bytes : List ℕ) (at : ℕ) → AreBytes bytes → number8 bytes at < 2 ^ 64
number8-lt bytes at fits = below8 _ (bytes_taken bytes at 8 fits)

-- eight bytes at a place, and what follows them
pub eight : (bytes : List ℕ) (at : ℕ) → AreBytes bytes → at + 8 ≤ length bytes → drop at bytes ≡ field8 (number8 bytes at) ++ drop (at + 8) bytes
unfolding field8
eight bytes at fits long =
    let len : length (take 8 (drop at bytes)) ≡ 8 = simp (length-take, length-drop) (omega arith) in
    let back : to_be_bytes w64 (number8 bytes at) ≡ take 8 (drop at bytes) = be_bytes_8 _ (number8 bytes at) len (bytes_taken bytes at 8 fits) refl in
    sym (take-append-drop 8 (drop at bytes)) ∙ ap (λ xs. xs ++ drop 8 (drop at bytes)) (sym back) ∙ ap (λ xs. to_be_bytes w64 (number8 bytes at) ++ xs) (drop-drop 8 at bytes)

-- the first four bytes, and what follows them
pub four : (bytes : List ℕ) → AreBytes bytes → 4 ≤ length bytes → bytes ≡ field4 (number4 bytes) ++ drop 4 bytes
unfolding field4
four bytes fits long =
    let len : length (take 4 bytes) ≡ 4 = simp length-take (omega arith) in
    let back : to_be_bytes w32 (number4 bytes) ≡ take 4 bytes = be_bytes_4 _ (number4 bytes) len (bytes_taken bytes 0 4 fits) refl in
    sym (take-append-drop 4 bytes) ∙ ap (λ xs. xs ++ drop 4 bytes) (sym back)

-- one byte at a place, and what follows it
pub one : (bytes : List ℕ) (at : ℕ) → at + 1 ≤ length bytes → drop at bytes ≡ slice_index bytes at ∷ drop (at + 1) bytes
one bytes at long = rw add-one (drop-cons bytes at 0 (omega arith))

pub length-framed : (body : List ℕ) → length (framed body) ≡ 4 + length body
unfolding field4
length-framed body = omega arith

-- bytes begin with the frame that their length says
pub begins_framed : (bytes : List ℕ) → AreBytes bytes → 4 + number4 bytes ≤ length bytes → bytes ≡ framed (take (number4 bytes) (drop 4 bytes)) ++ drop (4 + number4 bytes) bytes
unfolding field4
begins_framed bytes fits long =
    let n = number4 bytes in
    let body = take n (drop 4 bytes) in
    let count : length body ≡ n = length-take-le n (drop 4 bytes) (omega (arith, length-drop 4 bytes)) in
    let rest : drop 4 bytes ≡ body ++ drop (4 + n) bytes =
    sym (take-append-drop n (drop 4 bytes)) ∙ ap (λ xs. body ++ xs) (drop-drop n 4 bytes) in
    four bytes fits (omega arith)
    ∙ ap (λ xs. to_be_bytes w32 n ++ xs) rest
    ∙ ap (λ k. to_be_bytes w32 k ++ (body ++ drop (4 + n) bytes)) (sym count)
