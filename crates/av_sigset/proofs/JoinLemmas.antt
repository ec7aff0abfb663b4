use Rattle.std.proofs.Common.{ℕ, ◌≡◌, ◌≤◌, ◌<◌, ◌+◌, ◌/◌, ◌⊎◌, inl, inr, true, false, List, [], ◌∷◌, ◌++◌, length, Result, Err, nat_le, nat_lt, refl, arith, le-leb, length-append}
use Rattle.std.proofs.lemmas.Bool.Decides.{nat_tests}
use Rattle.std.proofs.lemmas.List.{map-append, length-map}
use Rattle.std.proofs.lemmas.List.Sums.{sum_by_push}
use Rattle.std.specs.List.{list_any, AllByRecursion}
use Rattle.std.specs.Str.{bytes_eq}
use Rattle.av_sigset.specs.Judge.{signatures_with}
use Rattle.av_sigset.specs.Line.{AreWordsOf, JoinsAs}
use Rattle.av_sigset.specs.Set.{AreInRange, HasRightLength, IsSpan, patterns_of, byte_count}
use Rattle.av_sigset.specs.declared.fault.SetFaultKind.{SetFaultKind}
use Rattle.av_sigset.specs.declared.fault.SetFaultKind.TheVariants.{Duplicate, TooMany}
use Rattle.av_sigset.specs.declared.signature.Pattern.{Pattern}
use Rattle.av_sigset.specs.declared.signature.Signature.{Signature}
use Rattle.av_sigset.specs.declared.signature.Span.{Span}

module _ (before : List Signature) (name digits : List ℕ) (span : Span) (r : Result Signature SetFaultKind) (words : AreWordsOf name digits span r) where
  -- the name stood before
  pub repeats : list_any (λ t. bytes_eq t.name name) before ≡ true → signatures_with before r ≡ Err Duplicate
  repeats stands = rw (words.made, stands) refl

  -- there is no room
  pub full : list_any (λ t. bytes_eq t.name name) before ≡ false → (1024 ≤ length before) ⊎ (16384 < byte_count (patterns_of before) + length digits / 2) → signatures_with before r ≡ Err TooMany
  full new (inl many) = rw (words.made, new, le-leb _ _ many) refl
  full new (inr long) =
      let half : length words.spells.bytes ≡ length digits / 2 = omega (arith, words.spells.twice) in
      let over : nat_lt 16384 (byte_count (patterns_of before) + length words.spells.bytes) ≡ true = grind (arith, nat_tests) in
      rw (words.made, new, over) (grind (arith, nat_tests))

  -- there is room
  pub joins : list_any (λ t. bytes_eq t.name name) before ≡ false → length before < 1024 → byte_count (patterns_of before) + length digits / 2 ≤ 16384 → JoinsAs before name digits span r
  joins new few short =
      let half : length words.spells.bytes ≡ length digits / 2 = omega (arith, words.spells.twice) in
      let room : nat_le 1024 (length before) ≡ false = grind (arith, nat_tests) in
      let fits : nat_lt 16384 (byte_count (patterns_of before) + length words.spells.bytes) ≡ false = grind (arith, nat_tests) in
      record { spells = words.spells; bound = words.bound; few = few; short = omega (arith, half); joined = rw (words.made, new, room, fits) refl }

-- all of these and one more
pub all_push : {X : Type 0} (P : X → Type 0) (xs : List X) (x : X) → AllByRecursion P xs → P x → AllByRecursion P (xs ++ x ∷ [])
all_push P [] x all one = (one, tt)
all_push P (y ∷ xs) x all one = (all.0, all_push P xs x all.1 one)

-- with the signature that joins, the patterns are in their ranges
pub ranges_push : (before : List Signature) (name digits : List ℕ) (span : Span) (r : Result Signature SetFaultKind) → AreInRange (patterns_of before) → (j : JoinsAs before name digits span r)
    → AreInRange (patterns_of (before ++ record { name = name; pattern = record { bytes = j.spells.bytes; span = span } } ∷ []))
ranges_push before name digits span r ranges j =
    let s : Signature = record { name = name; pattern = record { bytes = j.spells.bytes; span = span } } in
    let p : Pattern = record { bytes = j.spells.bytes; span = span } in
    rw (map-append (λ (t : Signature). t.pattern) before (s ∷ [])) (record {
      count = omega (arith, length-append (patterns_of before) (p ∷ []), length-map before (λ (t : Signature). t.pattern), j.few);
      lengths = all_push HasRightLength (patterns_of before) p ranges.lengths (j.spells.low, j.spells.high);
      spans = all_push (λ (q : Pattern). IsSpan q.span) (patterns_of before) p ranges.spans j.bound;
      bytes = omega (arith, sum_by_push (λ (q : Pattern). length q.bytes) (patterns_of before) p, j.short);
    })

-- and this many bytes more
pub bytes_push : (before : List Signature) (name bytes : List ℕ) (span : Span) → byte_count (patterns_of (before ++ record { name = name; pattern = record { bytes = bytes; span = span } } ∷ [])) ≡ byte_count (patterns_of before) + length bytes
bytes_push before name bytes span = let p : Pattern = record { bytes = bytes; span = span } in let s : Signature = record { name = name; pattern = p } in rw (map-append (λ (t : Signature). t.pattern) before (s ∷ [])) (sum_by_push (λ (q : Pattern). length q.bytes) (patterns_of before) p)
