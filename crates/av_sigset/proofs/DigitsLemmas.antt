use Rattle.std.proofs.Common.{ℕ, ◌≡◌, ◌≤◌, ◌<◌, ◌*◌, ◌%◌, ◌==◌, ◌&&◌, ◌⊎◌, inl, inr, true, false, List, length, Option, Ok, Err, nat_le, refl, sym, arith, ◌∙◌, le-leb, eq-eqb, eqb-true}
use Rattle.std.proofs.lemmas.Bool.{and_parts, and_from, true≢false}
use Rattle.std.proofs.lemmas.List.Sums.{AllPass-from_list_all, list_all-from_AllPass}
use Rattle.std.proofs.lemmas.Bool.Decides.{nat_tests}
use Rattle.std.specs.List.{list_all}
use Rattle.hex.specs.Hex.{decode_of, is_hex_digit}
use Rattle.hex.proofs.HexLemmas.{decode_of-ok, decode_of-digits}
use Rattle.av_sigset.specs.Judge.{signature_under, signature_bound}
use Rattle.av_sigset.specs.Line.{SpellsPattern}
use Rattle.av_sigset.specs.declared.signature.Span.{Span}
use Rattle.av_sigset.specs.declared.fault.SetFaultKind.TheVariants.{Hex, Length}

-- what isn't pairs of digits is refused for that
pub not_hex : (digits : List ℕ) → ((length digits % 2 == 0) && list_all is_hex_digit digits) ≡ false → (name : List ℕ) (span : Option Span) → signature_under name (decode_of digits) span ≡ Err Hex
not_hex digits no_hex name span =
    (elim (decode_of digits) as (λ r. decode_of digits ≡ r → signature_under name r span ≡ Err Hex) [
      | Ok bytes ↦ λ is.
          let ok = decode_of-ok digits bytes is in
          let all = and_from _ _ (eq-eqb _ _ ok.0) (list_all-from_AllPass is_hex_digit digits ok.1) in
          absurd (true≢false (sym all ∙ no_hex))
      | Err e ↦ λ is. refl
    ]) refl

-- pairs of digits spell bytes
pub bytes_of : (digits : List ℕ) → ((length digits % 2 == 0) && list_all is_hex_digit digits) ≡ true
    → (bytes : List ℕ) × (decode_of digits ≡ Ok bytes) × (length digits ≡ 2 * length bytes)
bytes_of digits hex =
    let parts = and_parts _ _ hex in
    let some = decode_of-digits digits (eqb-true _ _ parts.0) (AllPass-from_list_all is_hex_digit digits parts.1) in
    let ok = decode_of-ok digits some.0 some.1 in
    (some.0, some.1, ok.2)

-- too few or too many are refused for that
pub wrong_length : (digits : List ℕ) → ((length digits % 2 == 0) && list_all is_hex_digit digits) ≡ true → (length digits ≡ 0) ⊎ (128 < length digits)
    → (name : List ℕ) (span : Option Span) → signature_under name (decode_of digits) span ≡ Err Length
wrong_length digits hex (inl none) name span = let some = bytes_of digits hex in let zero_long : length some.0 ≡ 0 = omega (arith, some.2) in rw (some.1, zero_long) refl
wrong_length digits hex (inr many) name span =
    let some = bytes_of digits hex in
    let high : 64 < length some.0 = omega (arith, some.2) in
    let low : nat_le 1 (length some.0) ≡ true = le-leb _ _ (omega arith) in
    let over : nat_le (length some.0) 64 ≡ false = grind (arith, nat_tests) in
    rw (some.1, low, over) refl

-- else they spell a pattern
pub spells : (digits : List ℕ) → ((length digits % 2 == 0) && list_all is_hex_digit digits) ≡ true → 1 ≤ length digits → length digits ≤ 128 → SpellsPattern digits
spells digits hex low high =
    let some = bytes_of digits hex in
    record { bytes = some.0; decoded = some.1; low = omega (arith, some.2); high = omega (arith, some.2); twice = some.2 }

-- a pattern's digits make a signature
pub made : (name digits bytes : List ℕ) (span : Option Span) → decode_of digits ≡ Ok bytes → 1 ≤ length bytes → length bytes ≤ 64
    → signature_under name (decode_of digits) span ≡ signature_bound name bytes span
made name digits bytes span is low high = rw (is, le-leb _ _ low, le-leb _ _ high) refl
