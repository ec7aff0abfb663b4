use Rattle.std.proofs.Common.{ℕ, ◌≡◌, ◌≤◌, ◌<◌, ◌%◌, ◌==◌, ◌&&◌, true, false, List, length, Ok, Err, nat_eq, nat_le, refl, arith, le-leb, eq-eqb}
use Rattle.std.proofs.lemmas.Bool.{and_from}
use Rattle.std.proofs.lemmas.Bool.Decides.{nat_tests}
use Rattle.std.proofs.lemmas.Nat.{mod_below}
use Rattle.std.proofs.lemmas.List.Sums.{list_all-from_AllPass}
use Rattle.std.specs.List.{list_all}
use Rattle.hex.specs.Hex.{is_hex_digit}
use Rattle.hex.proofs.HexLemmas.{decode_of-ok}
use Rattle.av_sigset.proofs.DigitsLemmas as digits
use Rattle.av_sigset.specs.Line.{SpellsPattern}
use Rattle.av_import.specs.Bytes.{bytes_of}
use Rattle.av_import.specs.declared.why.Why.TheVariants.{TooLong}

pairs : (text : List ℕ) → list_all is_hex_digit text ≡ true → length text % 2 ≡ 0 → ((length text % 2 == 0) && list_all is_hex_digit text) ≡ true
pairs text all even = and_from _ _ (eq-eqb _ _ even) all

-- too many pairs of digits
pub too_long : (text : List ℕ) → list_all is_hex_digit text ≡ true → length text % 2 ≡ 0 → 128 < length text → bytes_of text ≡ Err TooLong
too_long text all even long =
    let some = digits.bytes_of text (pairs text all even) in
    let filled : nat_eq (length text) 0 ≡ false = grind (arith, nat_tests) in
    let twice = some.2 in
    let over : nat_le (length some.0) 64 ≡ false = (let high : 64 < length some.0 = omega (arith, twice) in grind (arith, nat_tests)) in
    rw (filled, all, some.1, over) refl

-- a pattern
pub spells : (text : List ℕ) → list_all is_hex_digit text ≡ true → length text % 2 ≡ 0 → 0 < length text → length text ≤ 128 → SpellsPattern text
spells text all even some few = digits.spells text (pairs text all even) (omega arith) few

-- its bytes
pub bytes_spelt : (text : List ℕ) (s : SpellsPattern text) → bytes_of text ≡ Ok s.bytes
bytes_spelt text s =
    let ok = decode_of-ok text s.bytes s.decoded in
    let all = list_all-from_AllPass is_hex_digit text ok.1 in
    let low = s.low in
    let twice = s.twice in
    let filled : nat_eq (length text) 0 ≡ false = (let long : 0 < length text = omega (arith, low, twice) in grind (arith, nat_tests)) in
    rw (filled, all, s.decoded, le-leb _ _ s.high) refl

pub even_or_odd : (n : ℕ) → (n % 2 ≡ 1 → ⊥) → n % 2 ≡ 0
even_or_odd n other = let below = mod_below n 2 (omega arith) in omega (arith, below, other)
