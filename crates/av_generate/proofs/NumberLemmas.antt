use Rattle.std.proofs.Common.{ℕ, ◌≡◌, ◌<◌, ◌^◌, true, nat_le, List, [], ◌∷◌, refl, arith, decimal}
use Rattle.std.proofs.lemmas.Bool.{and_parts, leb-true, le-leb}
use Rattle.std.proofs.lemmas.Grind.{common_steps}
use Rattle.std.proofs.lemmas.Fmt.{digits_decimal}
use Rattle.std.proofs.lemmas.Str.Parse.{IsDigitsTest, FoldsDigits, IsNumeralModel, numerals_by_fold}
use Rattle.std.specs.Int.{IsInRange}
use Rattle.std.specs.List.{list_all}
use Rattle.av_base.specs.Decimal.{is_digit, value_from}
use Rattle.av_generate.proofs.PieceLemmas.{Lacks}

-- a digit in range
in_range : (c : ℕ) → is_digit c ≡ true → IsInRange 48 57 c
in_range c e = let k = and_parts (nat_le 48 c) (nat_le c 57) e in (leb-true 48 c k.0, leb-true c 57 k.1)

is_in_range : (c : ℕ) → IsInRange 48 57 c → is_digit c ≡ true
is_in_range c r =
    let low : nat_le 48 c ≡ true = le-leb 48 c r.0 in
    let high : nat_le c 57 ≡ true = le-leb c 57 r.1 in rw (low, high) refl

parts : (c : ℕ) (cs : List ℕ) → list_all is_digit (c ∷ cs) ≡ true → (is_digit c ≡ true) × (list_all is_digit cs ≡ true)
parts c cs e = and_parts (is_digit c) (list_all is_digit cs) e

tells : IsDigitsTest (λ ds. list_all is_digit ds ≡ true)
tells = record {
  empty = refl;
  parts = λ c cs e. let k = parts c cs e in (in_range c k.0, k.1);
  more = λ c cs r e. let d = is_in_range c r in rw d e;
}

folds : FoldsDigits value_from
folds = record { empty = λ n. refl; more = λ n c cs r. refl }

model : IsNumeralModel (λ ds. list_all is_digit ds ≡ true) (value_from 0)
model = numerals_by_fold _ tells value_from folds

-- no digit is a blank
digits_lack : (ds : List ℕ) → list_all is_digit ds ≡ true → Lacks 32 ds
digits_lack [] e = tt
digits_lack (c ∷ cs) e =
    let k = parts c cs e in
    let r = in_range c k.0 in (grind (arith, common_steps), digits_lack cs k.1)

-- the digits of a number have no blank
pub decimal_lacks : (n : ℕ) → n < 2 ^ 64 → Lacks 32 (decimal n)
decimal_lacks n h = digits_lack (decimal n) (digits_decimal model n h)
