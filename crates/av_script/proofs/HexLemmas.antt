use Rattle.std.proofs.Common.{ℕ, ◌≡◌, ◌≢◌, ◌%◌, ◌==◌, ◌&&◌, inl, inr, true, false, List, [], ◌∷◌, length, Ok, Err, refl, sym, arith, eqb-true}
use Rattle.std.proofs.lemmas.Bool.Decides.{eqb_tells}
use Rattle.std.proofs.lemmas.List.Sums.{AllPass-from_list_all, list_all-from_AllPass}
use Rattle.std.specs.List.{list_all}
use Rattle.hex.specs.Hex.{decode_of, decode_pairs, is_hex_digit}
use Rattle.hex.proofs.HexLemmas.{decode_of-ok, decode_of-digits}
use Rattle.av_script.specs.Script.Grammar.{is_hex, spells_bytes}

-- no digits spell nothing
pub is_hex-empty : (word : List ℕ) → (length word == 0) ≡ true → is_hex word ≡ false
unfolding decode_pairs
is_hex-empty [] none = refl
is_hex-empty (c ∷ cs) none = let long : length (c ∷ cs) ≡ 0 = eqb-true _ _ none in absurd (omega (arith, long))

-- digits come in pairs
pub is_hex-odd : (word : List ℕ) → length word % 2 ≢ 0 → is_hex word ≡ false
is_hex-odd word odd =
    (elim (decode_of word) as (λ r. decode_of word ≡ r → spells_bytes r ≡ false) [
      | Ok bytes ↦ λ is. absurd (odd (decode_of-ok word bytes is).0)
      | Err e ↦ λ is. refl
    ]) refl

-- pairs of digits spell a byte each
pub is_hex-even : (word : List ℕ) → (length word == 0) ≡ false → length word % 2 ≡ 0 → is_hex word ≡ list_all is_hex_digit word
is_hex-even [] some even = absurd cc
is_hex-even (c ∷ cs) some even =
    let word = c ∷ cs in
    (elim (decode_of word) as (λ r. decode_of word ≡ r → spells_bytes r ≡ list_all is_hex_digit word) [
      | Ok [] ↦ λ is. absurd (omega (arith, (decode_of-ok word [] is).2))
      | Ok (b ∷ bs) ↦ λ is. sym (list_all-from_AllPass is_hex_digit word (decode_of-ok word (b ∷ bs) is).1)
      | Err e ↦ λ is.
          (elim (list_all is_hex_digit word) as (λ b. list_all is_hex_digit word ≡ b → false ≡ b) [
            | true ↦ λ all. let found = decode_of-digits word even (AllPass-from_list_all is_hex_digit word all) in absurd cc
            | false ↦ λ none. refl
          ]) refl
    ]) refl

-- so a word of one byte and more is judged by its digits
pub is_hex-digits : (word : List ℕ) → (length word == 0) ≡ false → ((length word % 2 == 0) && list_all is_hex_digit word) ≡ is_hex word
is_hex-digits word some =
    elim (eqb_tells (length word % 2) 0) [
      | inl even ↦ rw even.0 (sym (is_hex-even word some even.1))
      | inr odd ↦ rw odd.0 (sym (is_hex-odd word odd.1))
    ]
