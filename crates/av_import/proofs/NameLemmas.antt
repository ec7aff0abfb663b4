use Rattle.std.proofs.Common.{ℕ, zero, suc, ◌≡◌, ◌≤◌, ◌<◌, ◌+◌, ◌-◌, ◌^◌, ◌&&◌, ◌||◌, ◌==◌, Bool, true, false, cond, List, [], ◌∷◌, ◌++◌, length, map, take, drop, decimal, nat_eq, nat_le, refl, ap, arith, ◌∙◌, le-leb, leb-true, length-append, length-drop}
use Rattle.std.proofs.Math.Seq.{length-take-le}
use Rattle.std.proofs.lemmas.Bool.{and_parts}
use Rattle.std.proofs.lemmas.Bool.Decides.{nat_tests}
use Rattle.std.proofs.lemmas.Fmt.{length-decimal-le}
use Rattle.std.proofs.lemmas.List.{map-append, length-map}
use Rattle.std.proofs.lemmas.List.Folds.{list_all-append}
use Rattle.std.proofs.lemmas.List.Sums.{sum_by-append, sum_by-cons}
use Rattle.std.specs.List.{list_all}
use Rattle.av_base.specs.Decimal.{is_digit}
use Rattle.av_sigset.proofs.FileLemmas.{stand_push}
use Rattle.av_sigset.specs.File.{MayStand}
use Rattle.av_sigset.specs.Judge.{is_name, is_name_byte}
use Rattle.av_sigset.specs.Set.{HasRightLength, IsSpan, byte_count, patterns_of}
use Rattle.av_sigset.specs.declared.signature.Pattern.{Pattern}
use Rattle.av_sigset.specs.declared.signature.Signature.{Signature}
use Rattle.av_import.specs.Import.{HasRoom, with_named}
use Rattle.av_import.specs.Name.{free_from, free_name, is_taken, numbered, shortened, sign_name, sign_of}
use Rattle.av_import.proofs.PigeonLemmas.{decimal_digits, one_free}

-- this number's name is free
pub free_here : (more number : ℕ) (name : List ℕ) (before : List Signature) → is_taken before (numbered name number) ≡ false → free_from more number name before ≡ numbered name number
unfolding free_from
free_here zero number name before free = refl
free_here (suc more) number name before free = rw free refl

-- it is taken, and the next is tried
pub free_next : (m more number : ℕ) (name : List ℕ) (before : List Signature) → m ≡ suc more → is_taken before (numbered name number) ≡ true
    → free_from m number name before ≡ free_from more (number + 1) name before
unfolding free_from
free_next m more number name before is taken = ap (λ k. free_from k number name before) is ∙ rw taken refl

-- no more are tried
pub free_last : (m number : ℕ) (name : List ℕ) (before : List Signature) → m ≡ 0 → free_from m number name before ≡ numbered name number
unfolding free_from
free_last m number name before is = ap (λ k. free_from k number name before) is

-- ---- such names are names

sign_good : (b : ℕ) → is_name_byte (sign_of b) ≡ true
sign_good b = (elim (is_name_byte b) as (λ v. is_name_byte b ≡ v → is_name_byte (cond v b 95) ≡ true) [ true ↦ λ e. e | false ↦ λ e. refl ]) refl

signs_good : (w : List ℕ) → list_all is_name_byte (map sign_of w) ≡ true
signs_good [] = refl
signs_good (b ∷ w) = rw (sign_good b) (signs_good w)

shortened_long : (w : List ℕ) → (1 ≤ length (shortened w)) × (length (shortened w) ≤ 32)
shortened_long [] = (omega arith, omega arith)
shortened_long (b ∷ w) =
    (elim (nat_le (length (b ∷ w)) 32) as (λ v. nat_le (length (b ∷ w)) 32 ≡ v
    → (1 ≤ length (cond v (b ∷ w) (take 15 (b ∷ w) ++ 46 ∷ drop (length (b ∷ w) - 16) (b ∷ w)))) × (length (cond v (b ∷ w) (take 15 (b ∷ w) ++ 46 ∷ drop (length (b ∷ w) - 16) (b ∷ w))) ≤ 32)) [
      | true ↦ λ e. (omega arith, leb-true _ _ e)
      | false ↦ λ e. (
          let long : 32 < length (b ∷ w) = grind (arith, nat_tests) in
          let front = length-take-le 15 (b ∷ w) (omega arith) in
          let back = length-drop (length (b ∷ w) - 16) (b ∷ w) in
          let all = length-append (take 15 (b ∷ w)) (46 ∷ drop (length (b ∷ w) - 16) (b ∷ w)) in
          (omega (arith, front, back, all), omega (arith, front, back, all)))
    ]) refl

named : (w : List ℕ) → 1 ≤ length w → length w ≤ 32 → list_all is_name_byte w ≡ true → is_name w ≡ true
named w low high all = rw (le-leb _ _ low, le-leb _ _ high, all) refl

pub sign_name_good : (raw : List ℕ) → is_name (sign_name raw) ≡ true
sign_name_good raw =
    let long = shortened_long raw in
    let same = length-map (shortened raw) sign_of in
    named (sign_name raw) (omega (arith, same, long.0)) (omega (arith, same, long.1)) (signs_good (shortened raw))

taken_all : (p : ℕ → Bool) (k : ℕ) (w : List ℕ) → list_all p w ≡ true → list_all p (take k w) ≡ true
taken_all p zero w all = refl
taken_all p (suc k) [] all = refl
taken_all p (suc k) (b ∷ w) all = let parts = and_parts (p b) (list_all p w) all in rw parts.0 (taken_all p k w parts.1)

or_third : (x y p q r : Bool) → (x || y || true || p || q || r) ≡ true
or_third true y p q r = refl
or_third false true p q r = refl
or_third false false p q r = refl

digit_good : (b : ℕ) → is_digit b ≡ true → is_name_byte b ≡ true
digit_good b is = let parts = and_parts (nat_le 48 b) (nat_le b 57) is in rw (parts.0, parts.1) (or_third (nat_le 97 b && nat_le b 122) (nat_le 65 b && nat_le b 90) (b == 46) (b == 95) (b == 45))

digits_good : (w : List ℕ) → list_all is_digit w ≡ true → list_all is_name_byte w ≡ true
digits_good [] all = refl
digits_good (b ∷ w) all = let parts = and_parts (is_digit b) (list_all is_digit w) all in rw (digit_good b parts.0) (digits_good w parts.1)

length-take-max : (k : ℕ) (w : List ℕ) → length (take k w) ≤ k
length-take-max zero w = omega arith
length-take-max (suc k) [] = omega arith
length-take-max (suc k) (b ∷ w) = omega (arith, length-take-max k w)

numbered_good : (name : List ℕ) (n : ℕ) → n < 10 ^ 4 → is_name name ≡ true → is_name (numbered name n) ≡ true
unfolding numbered
numbered_good name n small good =
    (elim (nat_eq n 1) as (λ v. is_name (cond v name (take (32 - (length (decimal n) + 1)) name ++ 46 ∷ decimal n)) ≡ true) [
      | true ↦ good
      | false ↦
          let wide : n < 2 ^ 64 = omega (arith, small) in
          let digits = length-decimal-le 4 n (omega arith) small wide in
          let front = length-take-max (32 - (length (decimal n) + 1)) name in
          let all = length-append (take (32 - (length (decimal n) + 1)) name) (46 ∷ decimal n) in
          let parts = and_parts _ _ good in
          let signs : list_all is_name_byte (take (32 - (length (decimal n) + 1)) name ++ 46 ∷ decimal n) ≡ true =
          list_all-append is_name_byte (take (32 - (length (decimal n) + 1)) name) (46 ∷ decimal n)
          ∙ rw (taken_all is_name_byte (32 - (length (decimal n) + 1)) name parts.1) (digits_good (decimal n) (decimal_digits n wide)) in
          named (take (32 - (length (decimal n) + 1)) name ++ 46 ∷ decimal n) (omega (arith, all)) (omega (arith, all, front, digits)) signs
    ])

free_good : (more number : ℕ) (name : List ℕ) (before : List Signature) → number + more < 10 ^ 4 → is_name name ≡ true → is_name (free_from more number name before) ≡ true
unfolding free_from
free_good zero number name before small good = numbered_good name number (omega (arith, small)) good
free_good (suc more) number name before small good =
    elim (is_taken before (numbered name number)) as (λ v. is_name (cond v (free_from more (number + 1) name before) (numbered name number)) ≡ true) [
      | true ↦ free_good more (number + 1) name before (omega (arith, small)) good
      | false ↦ numbered_good name number (omega (arith, small)) good
    ]

-- one more stands behind those that may stand in a file
pub stand_named : (before : List Signature) (s : Signature) → MayStand before → HasRightLength s.pattern → IsSpan s.pattern.span → HasRoom before 1 (length s.pattern.bytes) → MayStand (with_named before s)
stand_named before s may right bound room =
    stand_push before (record { name = free_name before s.name; pattern = s.pattern }) may (free_good 1026 1 (sign_name s.name) before (omega arith) (sign_name_good s.name)) right bound
    (record { new = one_free (sign_name s.name) before (omega (arith, room.few)); few = omega (arith, room.few); short = room.short })

pub bytes_named : (before : List Signature) (s : Signature) → byte_count (patterns_of (with_named before s)) ≡ byte_count (patterns_of before) + length s.pattern.bytes
bytes_named before s =
    ap byte_count (map-append (λ (t : Signature). t.pattern) before (record { name = free_name before s.name; pattern = s.pattern } ∷ []))
    ∙ sum_by-append (λ (p : Pattern). length p.bytes) (patterns_of before) (s.pattern ∷ []) ∙ ap (λ n. byte_count (patterns_of before) + n) (one_sum s.pattern)
  where
    one_sum : (p : Pattern) → byte_count (p ∷ []) ≡ length p.bytes
    one_sum p = omega (arith, sum_by-cons (λ (q : Pattern). length q.bytes) p [])
