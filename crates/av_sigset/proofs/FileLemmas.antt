use Rattle.std.proofs.Common.{ℕ, ◌≡◌, ◌≤◌, ◌<◌, ◌+◌, Bool, true, false, cond, ◌&&◌, ◌||◌, List, [], ◌∷◌, ◌++◌, length, Option, None, Some, Result, Ok, Err, IsTrue, codes, refl, sym, ap, subst, nat_eq, nat_le, nat_lt, arith, ◌∙◌, append_assoc, length-append, le-leb, leb-true, ◌==◌, not, slice_index, ◌⊎◌, inl, inr}
use Rattle.std.proofs.lemmas.Bool.{and_parts, true≢false, or_parts}
use Rattle.std.proofs.lemmas.Bool.Decides.{nat_tests}
use Rattle.std.proofs.lemmas.Slice.Eq.{bytes_eq-Decides}
use Rattle.std.proofs.lemmas.List.{map-append, append-nil, length-map}
use Rattle.std.proofs.lemmas.List.Sums.{sum_by-append, sum_by-cons, list_all-from_AllPass}
use Rattle.std.specs.List.{AllByRecursion, list_all, list_any}
use Rattle.std.specs.Str.{bytes_eq}
use Rattle.hex.specs.Hex.{decode_of, is_hex_digit}
use Rattle.hex.specs.declared.error.FromHexError.{FromHexError}
use Rattle.hex.proofs.HexLemmas.{decode_of-ok}
use Rattle.av_base.specs.Decimal.{decimal_of, digits_of, is_digit, value_from}
use Rattle.av_base.specs.Line.{pieces_of}
use Rattle.av_sigset.specs.File.{IsLineOf, AreLinesOf, AreDistinct, names_of, MayStand, IsFileOf, JudgesFiles}
use Rattle.av_sigset.specs.Judge.{is_name, is_name_byte, span_between, span_in, signature_bound, signature_under, signature_in, signature_of, header_of, format_of, set_in, signatures_within, signatures_with, then_line, whole_at, signatures_below, signatures_from, above_zero, version_of, set_under, with_version, set_below, set_of_lines, set_of}
use Rattle.av_sigset.specs.Set.{NumberedSet, HasRightLength, IsSpan, widest, patterns_of, byte_count}
use Rattle.av_sigset.specs.declared.format.Format.{Format}
use Rattle.av_sigset.specs.declared.format.Format.TheVariants.{One, Two}
use Rattle.av_sigset.specs.declared.fault.SetFault.{SetFault}
use Rattle.av_sigset.specs.declared.fault.SetFaultKind.{SetFaultKind}
use Rattle.av_sigset.specs.declared.fault.SetFaultKind.TheVariants.{Name, Length, Duplicate, TooMany}
use Rattle.av_sigset.specs.declared.signature.Pattern.{Pattern}
use Rattle.av_sigset.specs.declared.signature.Signature.{Signature}
use Rattle.av_sigset.specs.declared.signature.Span.{Span}
use Rattle.av_sigset.proofs.PieceLemmas.{IsFree, free_from, free_joined, pieces_joined, pieces_whole, pieces_split}
use Rattle.av_sigset.proofs.JoinLemmas.{all_push}
use Rattle.av_sigset.proofs.ReadLemmas.{pieces_one, line_judged, header_judged, more_lines}
use Rattle.av_sigset.proofs.JudgeLemmas.{list_any-map}

-- the digits of bytes, and names, have neither LF nor space
free_digits : (separator : ℕ) (digits bytes : List ℕ) → is_hex_digit separator ≡ false → decode_of digits ≡ Ok bytes → IsFree separator digits
free_digits separator digits bytes fails is = free_from is_hex_digit separator digits fails (list_all-from_AllPass is_hex_digit digits (decode_of-ok digits bytes is).1)

free_name : (separator : ℕ) (name : List ℕ) → is_name_byte separator ≡ false → IsTrue (is_name name) → IsFree separator name
free_name separator name fails is = free_from is_name_byte separator name fails (and_parts _ _ is).1

-- ---- tests of optional values, and numbers

some_parts : {A : Type 0} (b : Bool) (x y : A) → cond b (Some x) None ≡ Some y → b ≡ true
some_parts true x y h = refl
some_parts false x y h = absurd cc

some_other : {A : Type 0} (b : Bool) (o : Option A) (y : A) → cond b None o ≡ Some y → (b ≡ false) × (o ≡ Some y)
some_other true o y h = absurd cc
some_other false o y h = (refl, h)

some_first : {A : Type 0} (b : Bool) (o : Option A) (y : A) → cond b o None ≡ Some y → (b ≡ true) × (o ≡ Some y)
some_first true o y h = (refl, h)
some_first false o y h = absurd cc

decimal_digits : (digits : List ℕ) (v : ℕ) → decimal_of digits ≡ Some v → list_all is_digit digits ≡ true
decimal_digits digits v h =
    let inner = some_other (nat_eq (length digits) 0 || (nat_eq (slice_index digits 0) 48 && nat_lt 1 (length digits))) (digits_of digits) v h in
    (and_parts _ _ (some_parts (list_all is_digit digits && nat_lt (value_from 0 digits) 18446744073709551616) (value_from 0 digits) v inner.1)).0

free_decimal : (separator : ℕ) (digits : List ℕ) (v : ℕ) → is_digit separator ≡ false → decimal_of digits ≡ Some v → IsFree separator digits
free_decimal separator digits v fails is = free_from is_digit separator digits fails (decimal_digits digits v is)

-- ---- a span, from the words that name it

record AreNumbers (words : List (List ℕ)) (span : Span) : Type 0 where
  pub first : List ℕ
  pub last : List ℕ
  pub words_are : words ≡ first ∷ last ∷ []
  pub low : decimal_of first ≡ Some span.low
  pub high : decimal_of last ≡ Some span.high

-- no words for the widest span, or in format 2 two numbers
abbrev AreSpanWords : Format → List (List ℕ) → Span → Type 0
AreSpanWords format words span = ((words ≡ []) × (span ≡ widest)) ⊎ ((format ≡ Two) × AreNumbers words span)

pub widest_span : IsSpan widest
widest_span = (omega arith, omega arith)

numbers_between : (first last : List ℕ) (a b : Option ℕ) (span : Span) → decimal_of first ≡ a → decimal_of last ≡ b → span_between a b ≡ Some span → AreNumbers (first ∷ last ∷ []) span × IsSpan span
numbers_between first last None b span e f h = absurd cc
numbers_between first last (Some low) None span e f h = absurd cc
numbers_between first last (Some low) (Some high) span e f h =
    let parts = some_first (nat_le low high && nat_le high 1048575) (Some (record { low = low; high = high })) span h in
    let tests = and_parts (nat_le low high) (nat_le high 1048575) parts.0 in
    let same : record { low = low; high = high } ≡ span = (let one = parts.1 in cc) in
    subst (λ (t : Span). AreNumbers (first ∷ last ∷ []) t × IsSpan t) same
    (record { first = first; last = last; words_are = refl; low = e; high = f }, (leb-true _ _ tests.0, leb-true _ _ tests.1))

span_words : (words : List (List ℕ)) (span : Span) → span_in words ≡ Some span → AreSpanWords Two words span × IsSpan span
span_words [] span h = let same : widest ≡ span = cc in subst (λ t. AreSpanWords Two [] t × IsSpan t) same (inl (refl, refl), widest_span)
span_words (first ∷ []) span h = absurd cc
span_words (first ∷ last ∷ []) span h = let parts = numbers_between first last (decimal_of first) (decimal_of last) span refl refl h in (inr (refl, parts.0), parts.1)
span_words (first ∷ last ∷ other ∷ rest) span h = absurd cc

-- and back
between_numbers : (words : List (List ℕ)) (span : Span) → AreNumbers words span → IsSpan span → span_in words ≡ Some span
between_numbers words span n is =
    let low : nat_le span.low span.high ≡ true = le-leb _ _ is.0 in
    let high : nat_le span.high 1048575 ≡ true = le-leb _ _ is.1 in
    rw (n.words_are, n.low, n.high, low, high) refl

-- ---- one line, from its words to its signature

-- of a signature's words
record IsSpelt (format : Format) (words : List (List ℕ)) (s : Signature) : Type 0 where
  pub digits : List ℕ
  pub behind : List (List ℕ)
  pub words_are : words ≡ s.name ∷ digits ∷ behind
  pub name : IsTrue (is_name s.name)
  pub bytes : decode_of digits ≡ Ok s.pattern.bytes
  pub length : HasRightLength s.pattern
  pub span : AreSpanWords format behind s.pattern.span
  pub bound : IsSpan s.pattern.span

ok_other : {A E : Type 0} (b : Bool) (r : Result A E) (y : A) (e : E) → cond b r (Err e) ≡ Ok y → (b ≡ true) × (r ≡ Ok y)
ok_other true r y e h = (refl, h)
ok_other false r y e h = absurd cc

bound_parts : (name bytes : List ℕ) (o : Option Span) (s : Signature) → signature_bound name bytes o ≡ Ok s → (span : Span) × (o ≡ Some span) × (record { name = name; pattern = record { bytes = bytes; span = span } } ≡ s)
bound_parts name bytes None s h = absurd cc
bound_parts name bytes (Some span) s h = (span, refl, cc)

spelt_under : (format : Format) (name digits : List ℕ) (words : List (List ℕ)) (s : Signature) (r : Result (List ℕ) FromHexError) (o : Option Span) → decode_of digits ≡ r → IsTrue (is_name name)
    → ((span : Span) → o ≡ Some span → AreSpanWords format words span × IsSpan span) → signature_under name r o ≡ Ok s → IsSpelt format (name ∷ digits ∷ words) s
spelt_under format name digits words s (Err e) o is good spans h = absurd cc
spelt_under format name digits words s (Ok bytes) o is good spans h =
    let parts = ok_other (nat_le 1 (length bytes) && nat_le (length bytes) 64) (signature_bound name bytes o) s Length h in
    let lengths = and_parts _ _ parts.0 in
    let one = bound_parts name bytes o s parts.1 in
    let named = spans one.0 one.1 in
    subst (λ t. IsSpelt format (name ∷ digits ∷ words) t) one.2
    (record { digits = digits; behind = words; words_are = refl; name = good; bytes = is; length = (leb-true _ _ lengths.0, leb-true _ _ lengths.1); span = named.0; bound = named.1 })

widest_words : (format : Format) (span : Span) → Some widest ≡ Some span → AreSpanWords format [] span × IsSpan span
widest_words format span h = let same : widest ≡ span = cc in subst (λ t. AreSpanWords format [] t × IsSpan t) same (inl (refl, refl), widest_span)

spelt_in : (format : Format) (name digits : List ℕ) (words : List (List ℕ)) (s : Signature) → IsTrue (is_name name) → signature_in format name digits words ≡ Ok s → IsSpelt format (name ∷ digits ∷ words) s
spelt_in One name digits [] s good h = spelt_under One name digits [] s (decode_of digits) (Some widest) refl good (λ span e. widest_words One span e) h
spelt_in One name digits (word ∷ words) s good h = absurd cc
spelt_in Two name digits words s good h = spelt_under Two name digits words s (decode_of digits) (span_in words) refl good (λ span e. span_words words span e) h

spelt : (format : Format) (words : List (List ℕ)) (s : Signature) → signature_of format words ≡ Ok s → IsSpelt format words s
spelt format [] s h = absurd cc
spelt format (name ∷ []) s h = absurd cc
spelt format (name ∷ digits ∷ words) s h = let parts = ok_other (is_name name) (signature_in format name digits words) s Name h in spelt_in format name digits words s parts.0 parts.1

-- and back
under_spelt : (name digits bytes : List ℕ) (span : Span) → decode_of digits ≡ Ok bytes → 1 ≤ length bytes → length bytes ≤ 64
    → signature_under name (decode_of digits) (Some span) ≡ Ok (record { name = name; pattern = record { bytes = bytes; span = span } })
under_spelt name digits bytes span is few many = let low : nat_le 1 (length bytes) ≡ true = le-leb _ _ few in let high : nat_le (length bytes) 64 ≡ true = le-leb _ _ many in rw (is, low, high) refl

none_spelt : (format : Format) (name digits : List ℕ) → signature_in format name digits [] ≡ signature_under name (decode_of digits) (Some widest)
none_spelt One name digits = refl
none_spelt Two name digits = refl

in_spelt : (format : Format) (name digits bytes : List ℕ) (words : List (List ℕ)) (span : Span) → decode_of digits ≡ Ok bytes → 1 ≤ length bytes → length bytes ≤ 64 → AreSpanWords format words span → IsSpan span
    → signature_in format name digits words ≡ Ok (record { name = name; pattern = record { bytes = bytes; span = span } })
in_spelt format name digits bytes words span is few many (inl none) bound =
    ap (signature_in format name digits) none.0 ∙ none_spelt format name digits ∙ ap (λ t. signature_under name (decode_of digits) (Some t)) (sym none.1) ∙ under_spelt name digits bytes span is few many
in_spelt format name digits bytes words span is few many (inr two) bound =
    ap (λ f. signature_in f name digits words) two.0 ∙ ap (signature_under name (decode_of digits)) (between_numbers words span two.1 bound) ∙ under_spelt name digits bytes span is few many

signature_spelt : (format : Format) (name digits bytes : List ℕ) (words : List (List ℕ)) (span : Span) → IsTrue (is_name name) → decode_of digits ≡ Ok bytes → 1 ≤ length bytes → length bytes ≤ 64 → AreSpanWords format words span → IsSpan span
    → signature_of format (name ∷ digits ∷ words) ≡ Ok (record { name = name; pattern = record { bytes = bytes; span = span } })
signature_spelt format name digits bytes words span good is few many named bound = let name_is : is_name name ≡ true = good in rw name_is (in_spelt format name digits bytes words span is few many named bound)

-- ---- a signature behind others

pub record IsJoined (before : List Signature) (s : Signature) : Type 0 where
  pub new : list_any (λ t. bytes_eq t.name s.name) before ≡ false
  pub few : length before < 1024
  pub short : byte_count (patterns_of before) + length s.pattern.bytes ≤ 16384

within_parts : (before ss : List Signature) (s : Signature) (x y : Bool) → nat_le 1024 (length before) ≡ x → nat_lt 16384 (byte_count (patterns_of before) + length s.pattern.bytes) ≡ y
    → cond (x || y) (Err TooMany) (Ok (before ++ s ∷ [])) ≡ Ok ss → (length before < 1024) × (byte_count (patterns_of before) + length s.pattern.bytes ≤ 16384) × (ss ≡ before ++ s ∷ [])
within_parts before ss s true y e f h = absurd cc
within_parts before ss s false true e f h = absurd cc
within_parts before ss s false false e f h = (grind (arith, nat_tests), grind (arith, nat_tests), cc)

with_parts : (before ss : List Signature) (s : Signature) (x : Bool) → list_any (λ t. bytes_eq t.name s.name) before ≡ x → cond x (Err Duplicate) (signatures_within before (Ok s)) ≡ Ok ss
    → IsJoined before s × (ss ≡ before ++ s ∷ [])
with_parts before ss s true e h = absurd cc
with_parts before ss s false e h =
    let parts = within_parts before ss s _ _ refl refl h in
    (record { new = e; few = parts.0; short = parts.1 }, parts.2)

joined_parts : (before ss : List Signature) (r : Result Signature SetFaultKind) → signatures_with before r ≡ Ok ss → (s : Signature) × (r ≡ Ok s) × IsJoined before s × (ss ≡ before ++ s ∷ [])
joined_parts before ss (Err kind) h = absurd cc
joined_parts before ss (Ok s) h = let parts = with_parts before ss s _ refl h in (s, refl, parts.0, parts.1)

-- and back
joined : (before : List Signature) (s : Signature) → IsJoined before s → signatures_with before (Ok s) ≡ Ok (before ++ s ∷ [])
joined before s j =
    let room : nat_le 1024 (length before) ≡ false = (let few = j.few in grind (arith, nat_tests)) in
    let fits : nat_lt 16384 (byte_count (patterns_of before) + length s.pattern.bytes) ≡ false = (let short = j.short in grind (arith, nat_tests)) in
    rw (j.new, room, fits) refl

same_bytes : (n : List ℕ) → bytes_eq n n ≡ true
same_bytes n = let d = bytes_eq-Decides n n in d.1 refl

equal_bytes : (m n : List ℕ) → bytes_eq m n ≡ true → m ≡ n
equal_bytes m n h = let d = bytes_eq-Decides m n in d.0 h

-- one name more
distinct_push : (ns : List (List ℕ)) (n : List ℕ) → AreDistinct ns → list_any (λ m. bytes_eq m n) ns ≡ false → AreDistinct (ns ++ n ∷ [])
distinct_push [] n distinct new = (tt, tt)
distinct_push (m ∷ ns) n distinct new =
    let parts = or_parts (bytes_eq m n) (list_any (λ k. bytes_eq k n) ns) new in
    (all_push (λ k. m ≡ k → ⊥) ns n distinct.0 (λ same. true≢false (sym (same_bytes n) ∙ ap (λ k. bytes_eq k n) (sym same) ∙ parts.0)), distinct_push ns n distinct.1 parts.1)

-- a name that stands behind others is none of them
distinct_new : (ns : List (List ℕ)) (n : List ℕ) (ms : List (List ℕ)) → AreDistinct (ns ++ n ∷ ms) → list_any (λ m. bytes_eq m n) ns ≡ false
distinct_new [] n ms distinct = refl
distinct_new (m ∷ ns) n ms distinct =
    let other : bytes_eq m n ≡ false = (elim (bytes_eq m n) as (λ b. bytes_eq m n ≡ b → b ≡ false) [ true ↦ λ e. absurd (all_middle m ns n ms distinct.0 (equal_bytes m n e)) | false ↦ λ e. refl ]) refl in
    rw other (distinct_new ns n ms distinct.1)
  where
    all_middle : (m : List ℕ) (ns : List (List ℕ)) (n : List ℕ) (ms : List (List ℕ)) → AllByRecursion (λ k. m ≡ k → ⊥) (ns ++ n ∷ ms) → m ≡ n → ⊥
    all_middle m [] n ms all = all.0
    all_middle m (k ∷ ns) n ms all = all_middle m ns n ms all.1

names_push : (before : List Signature) (s : Signature) → names_of (before ++ s ∷ []) ≡ names_of before ++ s.name ∷ []
names_push before s = map-append (λ (t : Signature). t.name) before (s ∷ [])

patterns_push : (before : List Signature) (s : Signature) → patterns_of (before ++ s ∷ []) ≡ patterns_of before ++ s.pattern ∷ []
patterns_push before s = map-append (λ (t : Signature). t.pattern) before (s ∷ [])

pub stand_push : (before : List Signature) (s : Signature) → MayStand before → IsTrue (is_name s.name) → HasRightLength s.pattern → IsSpan s.pattern.span → IsJoined before s → MayStand (before ++ s ∷ [])
stand_push before s may good right bound j =
    let new : list_any (λ m. bytes_eq m s.name) (names_of before) ≡ false = list_any-map (λ m. bytes_eq m s.name) (λ (t : Signature). t.name) before ∙ j.new in
    record {
      names = rw (names_push before s) (all_push (λ n. IsTrue (is_name n)) (names_of before) s.name may.names good);
      distinct = rw (names_push before s) (distinct_push (names_of before) s.name may.distinct new);
      ranges = rw (patterns_push before s) (record {
        count = omega (arith, length-append (patterns_of before) (s.pattern ∷ []), length-map before (λ (t : Signature). t.pattern), j.few);
        lengths = all_push HasRightLength (patterns_of before) s.pattern may.ranges.lengths right;
        spans = all_push (λ (p : Pattern). IsSpan p.span) (patterns_of before) s.pattern may.ranges.spans bound;
        bytes = omega (arith, sum_by-append (λ (p : Pattern). length p.bytes) (patterns_of before) (s.pattern ∷ []), sum_by-cons (λ (p : Pattern). length p.bytes) s.pattern [], j.short);
      });
    }

-- of signatures that may stand, one in their midst
all_last : {A : Type 0} (P : A → Type 0) (xs : List A) (x : A) (ys : List A) → AllByRecursion P (xs ++ x ∷ ys) → P x
all_last P [] x ys all = all.0
all_last P (y ∷ xs) x ys all = all_last P xs x ys all.1

stand_parts : (before : List Signature) (s : Signature) (rest : List Signature) → MayStand (before ++ s ∷ rest) → IsTrue (is_name s.name) × HasRightLength s.pattern × IsJoined before s × IsSpan s.pattern.span
stand_parts before s rest may =
    let named = map-append (λ (t : Signature). t.name) before (s ∷ rest) in
    let looked = map-append (λ (t : Signature). t.pattern) before (s ∷ rest) in
    let names = subst (λ ns. AllByRecursion (λ n. IsTrue (is_name n)) ns) named may.names in
    let lengths = subst (λ ps. AllByRecursion HasRightLength ps) looked may.ranges.lengths in
    let spans = subst (λ ps. AllByRecursion (λ (p : Pattern). IsSpan p.span) ps) looked may.ranges.spans in
    let all_long : length (patterns_of before ++ s.pattern ∷ patterns_of rest) ≤ 1024 = subst (λ ps. length ps ≤ 1024) looked may.ranges.count in
    let all_bytes : byte_count (patterns_of before ++ s.pattern ∷ patterns_of rest) ≤ 16384 = subst (λ ps. byte_count ps ≤ 16384) looked may.ranges.bytes in (
      all_last (λ n. IsTrue (is_name n)) (names_of before) s.name (names_of rest) names,
      all_last HasRightLength (patterns_of before) s.pattern (patterns_of rest) lengths,
      record {
        new = sym (list_any-map (λ m. bytes_eq m s.name) (λ (t : Signature). t.name) before) ∙ distinct_new (names_of before) s.name (names_of rest) (subst AreDistinct named may.distinct);
        few = omega (arith, all_long, length-append (patterns_of before) (s.pattern ∷ patterns_of rest), length-map before (λ (t : Signature). t.pattern));
        short = omega (arith, all_bytes, sum_by-append (λ (p : Pattern). length p.bytes) (patterns_of before) (s.pattern ∷ patterns_of rest), sum_by-cons (λ (p : Pattern). length p.bytes) s.pattern (patterns_of rest));
      },
      all_last (λ (p : Pattern). IsSpan p.span) (patterns_of before) s.pattern (patterns_of rest) spans,
    )

-- ---- the lines of signatures

then_parts : (n : ℕ) (r : Result (List Signature) SetFaultKind) (next : List Signature → Result (List Signature) SetFault) (ss : List Signature) → then_line n r next ≡ Ok ss → (more : List Signature) × (r ≡ Ok more) × (next more ≡ Ok ss)
then_parts n (Err kind) next ss h = absurd cc
then_parts n (Ok more) next ss h = (more, refl, h)

whole_parts : (before : List Signature) (line : List ℕ) (ss : List Signature) → whole_at before line ≡ Ok ss → (line ≡ []) × (ss ≡ before)
whole_parts before [] ss h = (refl, cc)
whole_parts before (b ∷ line) ss h = absurd cc

record AreSpelt (format : Format) (before ss : List Signature) (text : List ℕ) : Type 0 where
  pub more : List Signature
  pub joined : ss ≡ before ++ more
  pub lines : AreLinesOf format text more
  pub signatures : MayStand ss

line_of : (format : Format) (line : List ℕ) (s : Signature) → IsSpelt format (pieces_of 32 line) s → IsLineOf format line s
line_of format line s sp =
    let split = pieces_split 32 line s.name sp.digits sp.behind sp.words_are in
    elim sp.span [
      | inl none ↦
          let rest_is : sp.digits ≡ split.rest = pieces_one 32 split.rest sp.digits (split.pieces ∙ ap (λ ws. sp.digits ∷ ws) none.0) in
          record { digits = sp.digits; behind = []; spelt = split.joined ∙ ap (λ d. s.name ++ 32 ∷ d) (sym rest_is ∙ sym (append-nil sp.digits)); bytes = sp.bytes; span = inl (refl, none.1) }
      | inr two ↦
          let n = two.1 in
          let digits_split = pieces_split 32 split.rest sp.digits n.first (n.last ∷ []) (split.pieces ∙ ap (λ ws. sp.digits ∷ ws) n.words_are) in
          let first_split = pieces_split 32 digits_split.rest n.first n.last [] digits_split.pieces in
          let last_is : n.last ≡ first_split.rest = pieces_one 32 first_split.rest n.last first_split.pieces in
          let behind_is : digits_split.rest ≡ n.first ++ 32 ∷ n.last = first_split.joined ∙ ap (λ w. n.first ++ 32 ∷ w) (sym last_is) in
          record {
            digits = sp.digits;
            behind = 32 ∷ n.first ++ 32 ∷ n.last;
            spelt = split.joined ∙ ap (λ r. s.name ++ 32 ∷ r) (digits_split.joined ∙ ap (λ r. sp.digits ++ 32 ∷ r) behind_is);
            bytes = sp.bytes;
            span = inr (two.0, record { first = n.first; last = n.last; spelt = refl; low = n.low; high = n.high });
          }
    ]

lines_spelt : (format : Format) (rest : List (List ℕ)) (before ss : List Signature) (text line : List ℕ) → MayStand before → pieces_of 10 text ≡ line ∷ rest → signatures_below format before line rest ≡ Ok ss → AreSpelt format before ss text
unfolding signatures_below
lines_spelt format [] before ss text line may pieces h =
    let parts = whole_parts before line ss h in
    let none : text ≡ [] = sym (pieces_one 10 text line pieces) ∙ parts.0 in
    record { more = []; joined = parts.1 ∙ sym (append-nil before); lines = none; signatures = subst MayStand (sym parts.1) may }
lines_spelt format (below ∷ rest) before ss text line may pieces h =
    let split = pieces_split 10 text line below rest pieces in
    let parts = then_parts (length before + 3) (signatures_with before (signature_of format (pieces_of 32 line))) (λ signatures. signatures_below format signatures below rest) ss h in
    let join = joined_parts before parts.0 (signature_of format (pieces_of 32 line)) parts.1 in
    let sp = spelt format (pieces_of 32 line) join.0 join.1 in
    let next : signatures_below format (before ++ join.0 ∷ []) below rest ≡ Ok ss = ap (λ xs. signatures_below format xs below rest) (sym join.3) ∙ parts.2 in
    let others = lines_spelt format rest (before ++ join.0 ∷ []) ss split.rest below (stand_push before join.0 may sp.name sp.length sp.bound join.2) split.pieces next in
    record { more = join.0 ∷ others.more; joined = others.joined ∙ append_assoc before (join.0 ∷ []) others.more; lines = (line, split.rest, split.joined, line_of format line join.0 sp, others.lines); signatures = others.signatures }

-- and back: the words of a line, which has no LF
record HasWords (format : Format) (line : List ℕ) (s : Signature) : Type 0 where
  pub digits : List ℕ
  pub behind : List (List ℕ)
  pub words : pieces_of 32 line ≡ s.name ∷ digits ∷ behind
  pub bytes : decode_of digits ≡ Ok s.pattern.bytes
  pub span : AreSpanWords format behind s.pattern.span
  pub free : IsFree 10 line

no_more : (s : Signature) (l : List ℕ) → s.name ++ 32 ∷ (l ++ []) ≡ s.name ++ 32 ∷ l
no_more s l = ap (λ d. s.name ++ 32 ∷ d) (append-nil l)

line_words : (format : Format) (line : List ℕ) (s : Signature) → IsTrue (is_name s.name) → IsLineOf format line s → HasWords format line s
line_words format line s good l =
    let name_free : (separator : ℕ) → is_name_byte separator ≡ false → IsFree separator s.name = λ separator fails. free_name separator s.name fails good in
    let digits_free : (separator : ℕ) → is_hex_digit separator ≡ false → IsFree separator l.digits = λ separator fails. free_digits separator l.digits s.pattern.bytes fails l.bytes in
    elim l.span [
      | inl none ↦
          let line_is : line ≡ s.name ++ 32 ∷ l.digits = l.spelt ∙ ap (λ b. s.name ++ 32 ∷ (l.digits ++ b)) none.0 ∙ no_more s l.digits in
          record {
            digits = l.digits;
            behind = [];
            words = ap (pieces_of 32) line_is ∙ pieces_joined 32 s.name l.digits (name_free 32 refl) ∙ ap (λ ps. s.name ∷ ps) (pieces_whole 32 l.digits (digits_free 32 refl));
            bytes = l.bytes;
            span = inl (refl, none.1);
            free = subst (IsFree 10) (sym line_is) (free_joined 10 32 s.name l.digits (name_free 10 refl) (λ e. omega arith) (digits_free 10 refl));
          }
      | inr two ↦
          let n = two.1 in
          let last = n.first ++ 32 ∷ n.last in
          let line_is : line ≡ s.name ++ 32 ∷ (l.digits ++ 32 ∷ last) = l.spelt ∙ ap (λ b. s.name ++ 32 ∷ (l.digits ++ b)) n.spelt in
          let last_pieces : pieces_of 32 last ≡ n.first ∷ n.last ∷ [] = pieces_joined 32 n.first n.last (free_decimal 32 n.first s.pattern.span.low refl n.low) ∙ ap (λ ps. n.first ∷ ps) (pieces_whole 32 n.last (free_decimal 32 n.last s.pattern.span.high refl n.high)) in
          let last_free : IsFree 10 last = free_joined 10 32 n.first n.last (free_decimal 10 n.first s.pattern.span.low refl n.low) (λ e. omega arith) (free_decimal 10 n.last s.pattern.span.high refl n.high) in
          record {
            digits = l.digits;
            behind = n.first ∷ n.last ∷ [];
            words = ap (pieces_of 32) line_is ∙ pieces_joined 32 s.name (l.digits ++ 32 ∷ last) (name_free 32 refl)
                ∙ ap (λ ps. s.name ∷ ps) (pieces_joined 32 l.digits last (digits_free 32 refl) ∙ ap (λ ps. l.digits ∷ ps) last_pieces);
            bytes = l.bytes;
            span = inr (two.0, record { first = n.first; last = n.last; words_are = refl; low = n.low; high = n.high });
            free = subst (IsFree 10) (sym line_is)
                (free_joined 10 32 s.name (l.digits ++ 32 ∷ last) (name_free 10 refl) (λ e. omega arith) (free_joined 10 32 l.digits last (digits_free 10 refl) (λ e. omega arith) last_free));
          }
    ]

lines_judged : (format : Format) (more before : List Signature) (text : List ℕ) → MayStand (before ++ more) → AreLinesOf format text more → signatures_from format before (pieces_of 10 text) ≡ Ok (before ++ more)
unfolding signatures_below
lines_judged format [] before text may lines = rw (lines, append-nil before) refl
lines_judged format (s ∷ more) before text may lines =
    let parts = stand_parts before s more may in
    let line = line_words format lines.0 s parts.0 lines.3 in
    let is : signature_of format (pieces_of 32 lines.0) ≡ Ok s = ap (signature_of format) line.words ∙ signature_spelt format s.name line.digits s.pattern.bytes line.behind s.pattern.span parts.0 line.bytes parts.1.0 parts.1.1 line.span parts.3 in
    let pieces : pieces_of 10 text ≡ lines.0 ∷ pieces_of 10 lines.1 = ap (pieces_of 10) lines.2 ∙ pieces_joined 10 lines.0 lines.1 line.free in
    let next = lines_judged format more (before ++ s ∷ []) lines.1 (subst MayStand (sym (append_assoc before (s ∷ []) more)) may) lines.4 in
    ap (signatures_from format before) pieces ∙ line_judged format before lines.0 lines.1
    ∙ ap (λ r. then_line (length before + 3) (signatures_with before r) (λ signatures. signatures_from format signatures (pieces_of 10 lines.1))) is
    ∙ ap (λ r. then_line (length before + 3) r (λ signatures. signatures_from format signatures (pieces_of 10 lines.1))) (joined before s parts.2)
    ∙ next ∙ ap Ok (append_assoc before (s ∷ []) more)

-- ---- the first two lines

record IsVersion (words : List (List ℕ)) (v : ℕ) : Type 0 where
  pub digits : List ℕ
  pub words_are : words ≡ codes "version" ∷ digits ∷ []
  pub number : decimal_of digits ≡ Some v
  pub positive : 1 ≤ v

positive_parts : (o : Option ℕ) (v : ℕ) → above_zero o ≡ Some v → (o ≡ Some v) × (1 ≤ v)
positive_parts None v h = absurd cc
positive_parts (Some n) v h =
    let parts = some_other (nat_eq n 0) (Some n) v h in
    let is : n ≡ v = cc (parts.1) in
    let some : nat_eq n 0 ≡ false = parts.0 in
    (parts.1, grind (arith, nat_tests))

version_parts : (words : List (List ℕ)) (v : ℕ) → version_of words ≡ Some v → IsVersion words v
version_parts [] v h = absurd cc
version_parts (word ∷ []) v h = absurd cc
version_parts (word ∷ digits ∷ []) v h =
    let parts = some_first (bytes_eq word (codes "version")) (above_zero (decimal_of digits)) v h in
    let number = positive_parts (decimal_of digits) v parts.1 in
    record { digits = digits; words_are = ap (λ w. w ∷ digits ∷ []) (equal_bytes word (codes "version") parts.0); number = number.0; positive = number.1 }
version_parts (word ∷ digits ∷ other ∷ rest) v h = absurd cc

under_parts : (v : ℕ) (r : Result (List Signature) SetFault) (s : NumberedSet) → set_under v r ≡ Ok s → (r ≡ Ok s.signatures) × (v ≡ s.version)
under_parts v (Err fault) s h = absurd cc
under_parts v (Ok signatures) s h =
    let same : record { version = v; signatures = signatures } ≡ s = cc in
    (ap (λ (t : NumberedSet). Ok t.signatures) same, ap (λ (t : NumberedSet). t.version) same)

numbered_parts : (format : Format) (o : Option ℕ) (rest : List (List ℕ)) (s : NumberedSet) → with_version format o rest ≡ Ok s → (o ≡ Some s.version) × (signatures_from format [] rest ≡ Ok s.signatures)
numbered_parts format None rest s h = absurd cc
numbered_parts format (Some v) rest s h = let parts = under_parts v (signatures_from format [] rest) s h in (ap Some parts.1, parts.0)

pub none_stands : MayStand []
none_stands = record { names = tt; distinct = tt; ranges = record { count = omega arith; lengths = tt; spans = tt; bytes = omega arith } }

-- a header is that of one format
format_parts : (line : List ℕ) (format : Format) → format_of line ≡ Some format → line ≡ header_of format
format_parts line format h =
    (elim (bytes_eq line (header_of One)) as (λ a. bytes_eq line (header_of One) ≡ a → cond a (Some One) (cond (bytes_eq line (header_of Two)) (Some Two) None) ≡ Some format → line ≡ header_of format) [
      | true ↦ λ e k. (let same : One ≡ format = cc in equal_bytes line (header_of One) e ∙ ap header_of same)
      | false ↦ λ e k.
          (elim (bytes_eq line (header_of Two)) as (λ b. bytes_eq line (header_of Two) ≡ b → cond b (Some Two) None ≡ Some format → line ≡ header_of format) [
            | true ↦ λ f m. (let same : Two ≡ format = cc in equal_bytes line (header_of Two) f ∙ ap header_of same)
            | false ↦ λ f m. absurd cc
          ]) refl k
    ]) refl h

header_format : (format : Format) → format_of (header_of format) ≡ Some format
header_format One = refl
header_format Two = refl

header_free : (format : Format) → IsFree 10 (header_of format)
header_free One = free_from (λ b. not (b == 10)) 10 (header_of One) refl refl
header_free Two = free_from (λ b. not (b == 10)) 10 (header_of Two) refl refl

set_parts : (o : Option Format) (rest : List (List ℕ)) (s : NumberedSet) → set_in o rest ≡ Ok s → (format : Format) × (o ≡ Some format) × (set_below format rest ≡ Ok s)
set_parts None rest s h = absurd cc
set_parts (Some format) rest s h = (format, refl, h)

file_from : (ps : List (List ℕ)) (file : List ℕ) (s : NumberedSet) → pieces_of 10 file ≡ ps → set_of_lines ps ≡ Ok s → IsFileOf file s
file_from [] file s pieces h = absurd cc
file_from (header ∷ []) file s pieces h = absurd cc
file_from (header ∷ second ∷ []) file s pieces h = absurd (let parts = set_parts (format_of header) (second ∷ []) s h in let e = parts.2 in cc)
file_from (header ∷ second ∷ third ∷ rest) file s pieces h =
    let parts = set_parts (format_of header) (second ∷ third ∷ rest) s h in
    let format = parts.0 in
    let numbered = numbered_parts format (version_of (pieces_of 32 second)) (third ∷ rest) s parts.2 in
    let version = version_parts (pieces_of 32 second) s.version numbered.0 in
    let first_split = pieces_split 10 file header second (third ∷ rest) pieces in
    let second_split = pieces_split 10 first_split.rest second third rest first_split.pieces in
    let word_split = pieces_split 32 second (codes "version") version.digits [] version.words_are in
    let digits_are : version.digits ≡ word_split.rest = pieces_one 32 word_split.rest version.digits word_split.pieces in
    let second_is : second ≡ codes "version" ++ 32 ∷ version.digits = word_split.joined ∙ ap (λ d. codes "version" ++ 32 ∷ d) (sym digits_are) in
    let lines = lines_spelt format rest [] s.signatures second_split.rest third none_stands second_split.pieces numbered.1 in
    record {
      format = format;
      digits = version.digits;
      below = second_split.rest;
      spelt = first_split.joined ∙ ap (λ w. w ++ 10 ∷ first_split.rest) (format_parts header format parts.1)
          ∙ ap (λ r. header_of format ++ 10 ∷ r) (second_split.joined ∙ ap (λ w. w ++ 10 ∷ second_split.rest) second_is);
      version = version.number;
      positive = version.positive;
      lines = subst (λ more. AreLinesOf format second_split.rest more) (sym lines.joined) lines.lines;
      signatures = lines.signatures;
    }

pub file_to : (file : List ℕ) (s : NumberedSet) → IsFileOf file s → set_of file ≡ Ok s
file_to file s f =
    let digits_free : (separator : ℕ) → is_digit separator ≡ false → IsFree separator f.digits = λ separator fails. free_decimal separator f.digits s.version fails f.version in
    let second = codes "version" ++ 32 ∷ f.digits in
    let second_free : IsFree 10 second = free_joined 10 32 (codes "version") f.digits (free_from is_name_byte 10 (codes "version") refl refl) (λ e. omega arith) (digits_free 10 refl) in
    let first_pieces : pieces_of 10 file ≡ header_of f.format ∷ pieces_of 10 (second ++ 10 ∷ f.below) = ap (pieces_of 10) f.spelt ∙ pieces_joined 10 (header_of f.format) (second ++ 10 ∷ f.below) (header_free f.format) in
    let second_pieces : pieces_of 10 (second ++ 10 ∷ f.below) ≡ second ∷ pieces_of 10 f.below = pieces_joined 10 second f.below second_free in
    let words : pieces_of 32 second ≡ codes "version" ∷ f.digits ∷ [] = pieces_joined 32 (codes "version") f.digits (free_from is_name_byte 32 (codes "version") refl refl) ∙ ap (λ ps. codes "version" ∷ ps) (pieces_whole 32 f.digits (digits_free 32 refl)) in
    let number : above_zero (decimal_of f.digits) ≡ Some s.version = (let p = f.positive in let some : nat_eq s.version 0 ≡ false = grind (arith, nat_tests) in rw (f.version, some) refl) in
    ap set_of_lines first_pieces ∙ header_judged (header_of f.format) (second ++ 10 ∷ f.below) ∙ ap (λ o. set_in o (pieces_of 10 (second ++ 10 ∷ f.below))) (header_format f.format)
    ∙ ap (set_below f.format) second_pieces ∙ more_lines f.format second f.below
    ∙ ap (λ ws. with_version f.format (version_of ws) (pieces_of 10 f.below)) words ∙ ap (λ o. with_version f.format o (pieces_of 10 f.below)) number ∙ ap (set_under s.version) (lines_judged f.format s.signatures [] f.below f.signatures f.lines)

pub files_judged : JudgesFiles
files_judged file s = (file_from (pieces_of 10 file) file s refl, file_to file s)
