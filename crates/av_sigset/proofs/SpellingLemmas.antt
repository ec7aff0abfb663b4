use Rattle.std.proofs.Common.{take, append-nil, ℕ, ◌≡◌, ◌<◌, ◌^◌, Bool, true, false, cond, ◌&&◌, List, [], ◌∷◌, ◌++◌, length, map, Some, codes, get_or, refl, sym, ap, nat_eq, nat_lt, arith, ◌∙◌, append_assoc, inl, inr, ◌⊎◌, rules, decimal, zero, suc}
use Rattle.std.proofs.lemmas.Bool.{and_parts}
use Rattle.std.proofs.lemmas.Bool.Decides.{nat_tests, eqb_tells}
use Rattle.std.proofs.lemmas.Fmt.{decimal_nonempty, first_decimal, decimal_digit, digits_decimal, digits_value-decimal}
use Rattle.std.proofs.lemmas.Str.Parse.{IsNumeralModel, numerals_by_fold}
use Rattle.std.specs.List.{AllByRecursion, list_all}
use Rattle.hex.specs.Hex.{IsBytes, encode_lower}
use Rattle.hex.proofs.HexLemmas.{decode_of-encode_lower}
use Rattle.av_base.specs.Decimal.{decimal_of, digits_of, is_digit, value_from}
use Rattle.av_base.specs.Part.{spelt}
use Rattle.av_sigset.specs.File.{AreLinesOf, IsLineOf}
use Rattle.av_sigset.specs.Judge.{header_of}
use Rattle.av_sigset.specs.Set.{NumberedSet, IsSpan, patterns_of, widest}
use Rattle.av_sigset.specs.Spelling.{AreBytes, ReadsBack, format_for, head_text, is_widest, line_text, spelling}
use Rattle.av_sigset.specs.declared.format.Format.{Format}
use Rattle.av_sigset.specs.declared.format.Format.TheVariants.{One, Two}
use Rattle.av_sigset.specs.declared.signature.Pattern.{Pattern}
use Rattle.av_sigset.specs.declared.signature.Signature.{Signature}
use Rattle.av_sigset.specs.declared.signature.Span.{Span}
use Rattle.av_sigset.proofs.FileLemmas.{file_to}

-- ---- a number that is written is read

own : IsNumeralModel (λ ds. list_all is_digit ds ≡ true) (value_from 0)
own = numerals_by_fold _ (search rules) value_from (search rules)

fits : (n : ℕ) → n < 2 ^ 64 → digits_of (decimal n) ≡ Some n
fits n small =
    let all = digits_decimal own n small in
    let value = digits_value-decimal own n small in
    let under : nat_lt n (2 ^ 64) ≡ true = grind (arith, nat_tests) in
    rw (all, value, under) refl

pub decimal_read : (n : ℕ) → n < 2 ^ 64 → decimal_of (decimal n) ≡ Some n
decimal_read n small =
    elim (eqb_tells n 0) [
      | inl p ↦ rw p.1 (rw (decimal_digit 0 (omega arith)) refl)
      | inr p ↦
          let some : nat_eq (length (decimal n)) 0 ≡ false = (let long = decimal_nonempty n small in grind (arith, nat_tests)) in
          let above : 0 < n = omega (arith, p.1) in
          let first : nat_eq (get_or (decimal n) 0 0) 48 ≡ false = (let high = first_decimal n above small in grind (arith, nat_tests)) in
          rw (some, first) (fits n small)
    ]

-- ---- the lines of signatures

-- one element more
pub all_take : {A : Type 0} (P : A → Type 0) (xs : List A) (i : ℕ) (d : A) → i < length xs → AllByRecursion P (take i xs) → P (get_or xs i d) → AllByRecursion P (take (suc i) xs)
all_take P [] i d lt all one = tt
all_take P (x ∷ xs) zero d lt all one = (one, tt)
all_take P (x ∷ xs) (suc i) d lt all one = let lower : i < length xs = omega arith in (all.0, all_take P xs i d lower all.1 one)

widest_is : (low high : ℕ) → (nat_eq low 0 && nat_eq high 1048575) ≡ true → record { low = low; high = high } ≡ widest
widest_is low high h =
    let parts = and_parts (nat_eq low 0) (nat_eq high 1048575) h in
    let first : low ≡ 0 = grind (arith, nat_tests) in
    let last : high ≡ 1048575 = grind (arith, nat_tests) in
    rw (first, last) refl

two_places : (name e l h rest : List ℕ) → (name ++ (32 ∷ e ++ (32 ∷ l ++ (32 ∷ h ++ 10 ∷ [])))) ++ rest ≡ (name ++ 32 ∷ (e ++ (32 ∷ l ++ 32 ∷ h))) ++ 10 ∷ rest
two_places name e l h rest = simp append_assoc refl

spelt_line : (format : Format) (name bytes rest : List ℕ) (span : Span) (wide : Bool) → is_widest span ≡ wide → IsSpan span → IsBytes bytes → ((wide ≡ true) ⊎ (format ≡ Two))
    → (line : List ℕ) × (line_text (record { name = name; pattern = record { bytes = bytes; span = span } }) ++ rest ≡ line ++ 10 ∷ rest)
    × IsLineOf format line (record { name = name; pattern = record { bytes = bytes; span = span } })
spelt_line format name bytes rest span true wide is bytes_are one = (
  name ++ 32 ∷ (encode_lower bytes ++ []),
  rw (wide, append-nil (encode_lower bytes)) (append_assoc name (32 ∷ encode_lower bytes ++ 10 ∷ []) rest ∙ ap (λ t. name ++ 32 ∷ t) (append_assoc (encode_lower bytes) (10 ∷ []) rest) ∙ sym (append_assoc name (32 ∷ encode_lower bytes) (10 ∷ rest))),
  record { digits = encode_lower bytes; behind = []; spelt = refl; bytes = decode_of-encode_lower bytes bytes_are; span = inl (refl, widest_is span.low span.high wide) },
)
spelt_line format name bytes rest span false wide is bytes_are (inl one) = absurd (let e = one in cc)
spelt_line format name bytes rest span false wide is bytes_are (inr two) =
    let behind = 32 ∷ decimal span.low ++ 32 ∷ decimal span.high in (
      name ++ 32 ∷ (encode_lower bytes ++ behind),
      rw wide (two_places name (encode_lower bytes) (decimal span.low) (decimal span.high) rest),
      record {
        digits = encode_lower bytes;
        behind = behind;
        spelt = refl;
        bytes = decode_of-encode_lower bytes bytes_are;
        span = inr (two, record { first = decimal span.low; last = decimal span.high; spelt = refl; low = decimal_read span.low (omega (arith, is.0, is.1)); high = decimal_read span.high (omega (arith, is.1)) });
      },
    )

lines_are : (format : Format) (ss : List Signature) → ((list_all (λ s. is_widest s.pattern.span) ss ≡ true) ⊎ (format ≡ Two)) → AllByRecursion (λ s. IsSpan s.pattern.span) ss → AreBytes ss
    → AreLinesOf format (spelt (map line_text ss)) ss
lines_are format [] one spans bytes = refl
lines_are format (s ∷ ss) one spans bytes =
    let first = is_widest s.pattern.span in
    let others = list_all (λ (t : Signature). is_widest t.pattern.span) ss in
    let here : (first ≡ true) ⊎ (format ≡ Two) = elim one [ inl all ↦ inl (and_parts first others all).0 | inr two ↦ inr two ] in
    let below : (others ≡ true) ⊎ (format ≡ Two) = elim one [ inl all ↦ inl (and_parts first others all).1 | inr two ↦ inr two ] in
    let line = spelt_line format s.name s.pattern.bytes (spelt (map line_text ss)) s.pattern.span first refl spans.0 bytes.0 here in
    (line.0, spelt (map line_text ss), line.1, line.2, lines_are format ss below spans.1 bytes.1)

all_patterns : (ss : List Signature) → AllByRecursion (λ (p : Pattern). IsSpan p.span) (patterns_of ss) → AllByRecursion (λ s. IsSpan s.pattern.span) ss
all_patterns [] all = tt
all_patterns (s ∷ ss) all = (all.0, all_patterns ss all.1)

format_is : (ss : List Signature) → (list_all (λ s. is_widest s.pattern.span) ss ≡ true) ⊎ (format_for ss ≡ Two)
format_is ss =
    (elim (list_all (λ (s : Signature). is_widest s.pattern.span) ss) as (λ b. (b ≡ true) ⊎ (cond b One Two ≡ Two)) [ true ↦ inl refl | false ↦ inr refl ])

head_is : (format : Format) (version : ℕ) (below : List ℕ) → head_text format version ++ below ≡ header_of format ++ 10 ∷ (codes "version" ++ 32 ∷ decimal version ++ 10 ∷ below)
head_is One version below = simp append_assoc refl
head_is Two version below = simp append_assoc refl

-- a set that may stand in a file is read back from its text
pub reads_back : (s : NumberedSet) → s.version < 2 ^ 64 → AreBytes s.signatures → ReadsBack s
reads_back s small bytes positive may =
    file_to (spelling s) s (record {
      format = format_for s.signatures;
      digits = decimal s.version;
      below = spelt (map line_text s.signatures);
      spelt = head_is (format_for s.signatures) s.version (spelt (map line_text s.signatures));
      version = decimal_read s.version small;
      positive = positive;
      lines = lines_are (format_for s.signatures) s.signatures (format_is s.signatures) (all_patterns s.signatures may.ranges.spans) bytes;
      signatures = may;
    })
