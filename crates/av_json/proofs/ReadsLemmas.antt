-- What a reader of JSON makes of the bytes of a string.
use Rattle.std.proofs.Common.{ℕ, zero, suc, ◌≡◌, ◌<◌, ◌≤◌, ◌+◌, ◌-◌, ◌*◌, ◌/◌, ◌%◌, ◌++◌, ◌⊎◌, inl, inr, Bool, true, false, List, [], ◌∷◌, drop, get_or, Option, Some, None, cond, nat_lt, refl, sym, ap, ◌∙◌, subst, arith, append_assoc}
use Rattle.std.proofs.lemmas.Bool.{agree_below_at, cases_eq, cases_lt, ne_eqb, lt-ltb, le-ltb, lt-leb, ltb-true}
use Rattle.std.proofs.lemmas.Str.{digit_value-digit_char, encode_ascii}
use Rattle.std.specs.Char.{digit_char, len_utf8}
use lib.Utf8.{encode}
use Rattle.json.specs.Lex.{Lexeme, Mode, in_string, lex, lex_byte, operator, other, space}
use Rattle.json.specs.Print.{escape, escape_byte}
use Rattle.json.specs.Text.{code_unit, content, plain, prepend, short_escape}
use Rattle.json.specs.Word.{is_operator, is_space}
use Rattle.json.proofs.Printed.Strings.{escape_byte_plain}
use Rattle.av_json.proofs.FrontLemmas.{IsThree, IsTwo, encode_three, encode_two, front_is, hidden_bounds}
use Rattle.av_json.proofs.ShownLemmas.{are_low, shown_byte, shown_hidden, shown_low}
use Rattle.av_json.specs.Shown.{hidden_front, shown, shown_after, unicode_escape}

-- a text within quotes reads as these bytes
pub record Reads (bytes text : List ℕ) : Type 0 where
  pub content : (rest : List ℕ) → content plain (text ++ rest) ≡ prepend bytes (content plain rest)
  pub passed : (rest : List ℕ) → lex in_string (text ++ rest) ≡ lex in_string rest

prepend-twice : (a b : List ℕ) (o : Option (List ℕ)) → prepend a (prepend b o) ≡ prepend (a ++ b) o
prepend-twice a b None = refl
prepend-twice a b (Some s) = ap Some (sym (append_assoc a b s))

prepend-nothing : (o : Option (List ℕ)) → prepend [] o ≡ o
prepend-nothing None = refl
prepend-nothing (Some s) = refl

reads_nothing : Reads [] []
reads_nothing = record { content = λ rest. sym (prepend-nothing (content plain rest)); passed = λ rest. refl }

reads_both : (a b s t : List ℕ) → Reads a s → Reads b t → Reads (a ++ b) (s ++ t)
reads_both a b s t first second = record {
  content = λ rest. ap (content plain) (append_assoc s t rest) ∙ first.content (t ++ rest) ∙ ap (prepend a) (second.content rest) ∙ prepend-twice a b (content plain rest);
  passed = λ rest. ap (lex in_string) (append_assoc s t rest) ∙ first.passed (t ++ rest) ∙ second.passed rest;
}

stays_inside : (o s : Bool) (x : ℕ) (rest : List ℕ) (k : Mode → List Lexeme) → lex_byte in_string (cond o operator (cond s space other)) x rest k ≡ k in_string
stays_inside true s x rest k = refl
stays_inside false true x rest k = refl
stays_inside false false x rest k = refl

passes : (x : ℕ) (rest : List ℕ) → (x ≡ 34 → ⊥) → (x ≡ 92 → ⊥) → lex in_string (x ∷ rest) ≡ lex in_string rest
unfolding lex
passes x rest quote backslash = rw (ne_eqb x 34 quote, ne_eqb x 92 backslash) (stays_inside (is_operator x) (is_space x) x rest (λ m. lex m rest))

-- a byte that JSON leaves as it is
reads_plain : (x : ℕ) → (x ≡ 34 → ⊥) → (x ≡ 92 → ⊥) → 32 ≤ x → Reads (x ∷ []) (x ∷ [])
unfolding content
reads_plain x quote backslash high = record {
  content = λ rest. rw (ne_eqb x 34 quote, ne_eqb x 92 backslash, le-ltb x 32 high);
  passed = λ rest. passes x rest quote backslash;
}

-- a hexadecimal digit in lower case is a digit or one of the letters from a to f
pub digit_is : (d : ℕ) → d < 16 → ((48 ≤ digit_char d) × (digit_char d ≤ 57)) ⊎ ((97 ≤ digit_char d) × (digit_char d ≤ 102))
digit_is d small = elim (cases_lt d 10) [
  | inl lt ↦ inl (rw (lt-ltb d 10 lt) (omega arith, omega arith))
  | inr ge ↦ inr (rw (le-ltb d 10 ge) (omega arith, omega arith))
]

passes_digit : (d : ℕ) (rest : List ℕ) → d < 16 → lex in_string (digit_char d ∷ rest) ≡ lex in_string rest
passes_digit d rest small =
    let is = digit_is d small in
    passes (digit_char d) rest (λ e. elim is [ inl a ↦ absurd (omega arith) | inr a ↦ absurd (omega arith) ]) (λ e. elim is [ inl a ↦ absurd (omega arith) | inr a ↦ absurd (omega arith) ])

unit_is : (a b c d n : ℕ) → a < 16 → b < 16 → c < 16 → d < 16 → n ≡ a * 4096 + b * 256 + c * 16 + d → code_unit (digit_char a) (digit_char b) (digit_char c) (digit_char d) ≡ Some n
unfolding code_unit
unit_is a b c d n la lb lc ld is =
    rw (
      digit_value-digit_char a (omega arith),
      digit_value-digit_char b (omega arith),
      digit_value-digit_char c (omega arith),
      digit_value-digit_char d (omega arith),
      lt-ltb a 16 la,
      lt-ltb b 16 lb,
      lt-ltb c 16 lc,
      lt-ltb d 16 ld,
    ) (ap Some (sym is))

-- the escape of a character reads as its bytes
pub reads_escape : (c : ℕ) → c < 55296 → Reads (encode c) (unicode_escape c)
unfolding unicode_escape content lex
reads_escape c small =
    let a = c / 4096 in
    let b = c / 256 % 16 in
    let d = c / 16 % 16 in
    let e = c % 16 in
    let unit = unit_is a b d e c (omega arith) (omega arith) (omega arith) (omega arith) (omega arith) in
    record {
      content = λ rest. rw (unit, lt-leb 55296 c small, lt-leb 56320 c (omega arith));
      passed = λ rest.
          passes_digit a (digit_char b ∷ digit_char d ∷ digit_char e ∷ rest) (omega arith)
          ∙ passes_digit b (digit_char d ∷ digit_char e ∷ rest) (omega arith)
          ∙ passes_digit d (digit_char e ∷ rest) (omega arith) ∙ passes_digit e rest (omega arith);
    }

-- a control without a letter of its own stands as the escape of its number
control_is : (x : ℕ) → x < 32 → (x ≡ 8 → ⊥) → (x ≡ 9 → ⊥) → (x ≡ 10 → ⊥) → (x ≡ 12 → ⊥) → (x ≡ 13 → ⊥) → escape_byte x ≡ unicode_escape x
unfolding escape_byte unicode_escape
control_is x low a b c d e =
    let first : x / 4096 ≡ 0 = omega arith in
    let second : x / 256 % 16 ≡ 0 = omega arith in
    let third : x / 16 % 16 ≡ x / 16 = omega arith in
    rw (
      ne_eqb x 34 (λ z. omega arith),
      ne_eqb x 92 (λ z. omega arith),
      ne_eqb x 8 a,
      ne_eqb x 12 d,
      ne_eqb x 10 c,
      ne_eqb x 13 e,
      ne_eqb x 9 b,
      lt-ltb x 32 low,
      first,
      second,
      third,
    )

-- what stands in a string for a byte reads as that byte
pub reads_byte : (x : ℕ) → Reads (x ∷ []) (escape_byte x)
unfolding escape_byte content lex short_escape
reads_byte x = go (cases_eq x 34) (cases_eq x 92) (cases_eq x 8) (cases_eq x 9) (cases_eq x 10) (cases_eq x 12) (cases_eq x 13) (cases_lt x 32)
  where
    is : (y : ℕ) → x ≡ y → Reads (y ∷ []) (escape_byte y) → Reads (x ∷ []) (escape_byte x)
    is y e r = subst (λ z. Reads (z ∷ []) (escape_byte z)) (sym e) r

    go : (x ≡ 34) ⊎ (x ≡ 34 → ⊥) → (x ≡ 92) ⊎ (x ≡ 92 → ⊥) → (x ≡ 8) ⊎ (x ≡ 8 → ⊥) → (x ≡ 9) ⊎ (x ≡ 9 → ⊥) → (x ≡ 10) ⊎ (x ≡ 10 → ⊥) → (x ≡ 12) ⊎ (x ≡ 12 → ⊥)
        → (x ≡ 13) ⊎ (x ≡ 13 → ⊥) → (x < 32) ⊎ (32 ≤ x) → Reads (x ∷ []) (escape_byte x)
    go (inl s) b c d e f g l = is 34 s (record { content = λ rest. refl; passed = λ rest. refl })
    go (inr q) (inl s) c d e f g l = is 92 s (record { content = λ rest. refl; passed = λ rest. refl })
    go (inr q) (inr b) (inl s) d e f g l = is 8 s (record { content = λ rest. refl; passed = λ rest. refl })
    go (inr q) (inr b) (inr c) (inl s) e f g l = is 9 s (record { content = λ rest. refl; passed = λ rest. refl })
    go (inr q) (inr b) (inr c) (inr d) (inl s) f g l = is 10 s (record { content = λ rest. refl; passed = λ rest. refl })
    go (inr q) (inr b) (inr c) (inr d) (inr e) (inl s) g l = is 12 s (record { content = λ rest. refl; passed = λ rest. refl })
    go (inr q) (inr b) (inr c) (inr d) (inr e) (inr f) (inl s) l = is 13 s (record { content = λ rest. refl; passed = λ rest. refl })
    go (inr q) (inr b) (inr c) (inr d) (inr e) (inr f) (inr g) (inr high) = subst (Reads (x ∷ [])) (sym (escape_byte_plain x q b high)) (reads_plain x q b high)
    go (inr q) (inr b) (inr c) (inr d) (inr e) (inr f) (inr g) (inl low) =
        subst (λ t. Reads t (escape_byte x)) (encode_ascii x (omega arith)) (subst (Reads (encode x)) (sym (control_is x low c d e f g)) (reads_escape x (omega arith)))

-- a byte below DEL is escaped by such bytes
low_byte : (x : ℕ) → x < 127 → are_low (escape_byte x) ≡ true
unfolding escape_byte
low_byte x low = agree_below_at (λ y. are_low (escape_byte y)) (λ y. true) 127 x refl low

high_byte : (x : ℕ) → 127 ≤ x → escape_byte x ≡ x ∷ []
high_byte x high = escape_byte_plain x (λ e. omega arith) (λ e. omega arith) (omega arith)

-- so many bytes of a text are of characters of several bytes
abbrev AreHigh : ℕ → List ℕ → Type 0
AreHigh zero s = Unit {0}
AreHigh (suc n) [] = ⊥
AreHigh (suc n) (x ∷ s) = (127 ≤ x) × AreHigh n s

low_first : (front text : List ℕ) → get_or front 0 127 < 127 → get_or (front ++ text) 0 0 < 127
low_first [] text low = absurd (omega arith)
low_first (x ∷ front) text low = low

escape_first : (x : ℕ) → x < 127 → get_or (escape_byte x) 0 127 < 127
unfolding escape_byte
escape_first x low = ltb-true _ _ (agree_below_at (λ y. nat_lt (get_or (escape_byte y) 0 127) 127) (λ y. true) 127 x refl low)

-- where the escaped text begins with such a byte, so does the text
first_high : (s : List ℕ) → 128 ≤ get_or (escape s) 0 0 → (rest : List ℕ) × (s ≡ get_or (escape s) 0 0 ∷ rest) × (escape s ≡ get_or (escape s) 0 0 ∷ escape rest)
first_high [] high = let never : ⊥ = omega arith in absurd never
first_high (x ∷ s) high = elim (cases_lt x 127) [
  | inl low ↦ let first = low_first (escape_byte x) (escape s) (escape_first x low) in absurd (omega arith)
  | inr ge ↦ rw (high_byte x ge) (s, refl, refl)
]

-- a hidden character in front of the escaped text is one in front of the text
record IsFront (c x : ℕ) (s : List ℕ) : Type 0 where
  high : AreHigh (len_utf8 c - 1) s
  whole : encode c ++ drop (len_utf8 c - 1) s ≡ x ∷ s

one_front : (x : ℕ) (s : List ℕ) → x ≡ 127 → IsFront 127 x s
unfolding encode
one_front x s e = record { high = tt; whole = ap (λ y. y ∷ s) (sym e) }

two_front : (c x b : ℕ) (s : List ℕ) → IsTwo c x b → IsFront c x (b ∷ s)
two_front c x b s t =
    let bytes = encode_two c x b t in
    record { high = rw bytes.1 (omega arith, tt); whole = rw bytes.1 (ap (λ l. l ++ s) bytes.0) }

three_front : (c x b d : ℕ) (s : List ℕ) → IsThree c x b d → IsFront c x (b ∷ d ∷ s)
three_front c x b d s t =
    let bytes = encode_three c x b d t in
    record { high = rw bytes.1 (omega arith, (omega arith, tt)); whole = rw bytes.1 (ap (λ l. l ++ s) bytes.0) }

front_escaped : (x : ℕ) (s : List ℕ) (c : ℕ) → hidden_front (x ∷ escape s) ≡ Some c → (c < 55296) × IsFront c x s
front_escaped x s c e =
    let front = front_is (x ∷ escape s) c e in
    let bounds = hidden_bounds c front.0 in (
      bounds.1,
      elim front.1 [
        | inl one ↦ subst (λ y. IsFront y x s) (sym one.1) (one_front x s one.0)
        | inr more ↦ elim more [
          | inl t ↦
              let next = first_high s (omega arith) in
              subst (IsFront c x) (sym next.1) (two_front c x _ next.0 t)
          | inr t ↦
              let next = first_high s (omega arith) in
              let same : get_or (escape s) 1 0 ≡ get_or (escape next.0) 0 0 = ap (λ l. get_or l 1 0) next.2 in
              let last = first_high next.0 (omega arith) in
              subst (IsFront c x) (sym (next.1 ∙ ap (λ l. get_or (escape s) 0 0 ∷ l) last.1)) (three_front c x _ _ last.0 (subst (IsThree c x (get_or (escape s) 0 0)) same t))
        ]
      ],
    )

reads_high : (x : ℕ) (s : List ℕ) → 127 ≤ x → ((left : ℕ) → AreHigh left s → Reads (drop left s) (shown_after left (escape s))) → (o : Option ℕ) → hidden_front (x ∷ escape s) ≡ o → Reads (x ∷ s) (shown (x ∷ escape s))
reads_high x s high more None e = subst (Reads (x ∷ s)) (sym (shown_byte x (escape s) e)) (reads_both (x ∷ []) s (x ∷ []) (shown (escape s)) (reads_plain x (λ z. omega arith) (λ z. omega arith) (omega arith)) (more 0 tt))
reads_high x s high more (Some c) e =
    let front = front_escaped x s c e in
    let left = len_utf8 c - 1 in
    subst (λ l. Reads l (shown (x ∷ escape s))) front.1.whole
    (subst (Reads (encode c ++ drop left s)) (sym (shown_hidden x (escape s) c e)) (reads_both (encode c) (drop left s) (unicode_escape c) (shown_after left (escape s)) (reads_escape c front.0) (more left front.1.high)))

reads_left : (left : ℕ) (s : List ℕ) → AreHigh left s → Reads (drop left s) (shown_after left (escape s))
unfolding shown_after
reads_left zero [] high = reads_nothing
reads_left (suc left) [] high = absurd high
reads_left (suc left) (x ∷ s) high = subst (λ e. Reads (drop left s) (shown_after (suc left) (e ++ escape s))) (sym (high_byte x high.0)) (reads_left left s high.1)
reads_left zero (x ∷ s) high = elim (cases_lt x 127) [
  | inl low ↦
      subst (Reads (x ∷ s)) (sym (shown_low (escape_byte x) (escape s) (low_byte x low)))
      (reads_both (x ∷ []) s (escape_byte x) (shown (escape s)) (reads_byte x) (reads_left zero s tt))
  | inr ge ↦
      subst (λ e. Reads (x ∷ s) (shown (e ++ escape s))) (sym (high_byte x ge))
      (reads_high x s ge (λ left so. reads_left left s so) (hidden_front (x ∷ escape s)) refl)
]

-- what is shown of an escaped text reads as the text
pub reads_shown : (s : List ℕ) → Reads s (shown (escape s))
reads_shown s = reads_left 0 s tt

-- and so does the escaped text
pub reads_escaped : (s : List ℕ) → Reads s (escape s)
reads_escaped [] = reads_nothing
reads_escaped (x ∷ s) = reads_both (x ∷ []) s (escape_byte x) (escape s) (reads_byte x) (reads_escaped s)
