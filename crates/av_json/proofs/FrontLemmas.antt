-- The hidden character that a text begins with.
use Rattle.std.proofs.Common.{ℕ, ◌≡◌, ◌<◌, ◌≤◌, ◌+◌, ◌-◌, ◌*◌, ◌/◌, ◌%◌, ◌++◌, ◌&&◌, ◌⊎◌, inl, inr, Bool, true, false, List, [], ◌∷◌, length, drop, get_or, Option, Some, None, if◌then◌else◌, nat_lt, refl, sym, ap, ◌∙◌, subst, arith}
use Rattle.std.proofs.lemmas.Bool.{ltb-true, leb-true, eqb-true, lt-ltb, le-ltb, lt-leb, le-leb, and_parts, or_cases, false_from_ne_true, cases_lt, and_left, and_right}
use Rattle.std.proofs.lemmas.List.{get_or_past}
use Rattle.std.proofs.lemmas.Str.{len_utf8_ascii}
use Rattle.std.specs.Char.{len_utf8}
use Rattle.std.specs.Prelude.{IfSome}
use Rattle.std.specs.Int.{is_in_range}
use lib.Utf8.{encode}
use Rattle.av_json.specs.Shown.{BeginsHidden, front_char, goes_on, hidden_front, if_hidden, is_hidden}

choose : (b : Bool) (x y : Option ℕ) (c : ℕ) (P : Type 0) → (b ≡ true → x ≡ Some c → P) → (b ≡ false → y ≡ Some c → P) → (if b then x else y) ≡ Some c → P
choose true x y c P f g h = f refl h
choose false x y c P f g h = g refl h

in_range : (low high c : ℕ) → is_in_range low high c ≡ true → (low ≤ c) × (c ≤ high)
in_range low high c e = let p = and_parts _ _ e in (leb-true low c p.0, leb-true c high p.1)

-- a hidden character is neither a plain one of ASCII nor a half of a pair of UTF-16
pub hidden_bounds : (c : ℕ) → is_hidden c ≡ true → (127 ≤ c) × (c < 55296)
hidden_bounds c e =
    elim (or_cases _ _ e) [
      | inl a ↦ let r = in_range 0x7f 0x9f c a in (omega arith, omega arith)
      | inr o ↦ elim (or_cases _ _ o) [
        | inl a ↦ let r : c ≡ 0x61c = eqb-true c 0x61c a in (omega arith, omega arith)
        | inr p ↦ elim (or_cases _ _ p) [
          | inl a ↦ let r = in_range 0x200e 0x200f c a in (omega arith, omega arith)
          | inr q ↦ elim (or_cases _ _ q) [
            | inl a ↦ let r = in_range 0x202a 0x202e c a in (omega arith, omega arith)
            | inr a ↦ let r = in_range 0x2066 0x2069 c a in (omega arith, omega arith)
          ]
        ]
      ]
    ]

-- the two bytes of a character
pub record IsTwo (c a b : ℕ) : Type 0 where
  pub low : 194 ≤ a
  pub high : a ≤ 223
  pub next_low : 128 ≤ b
  pub next_high : b ≤ 191
  pub is : c ≡ (a - 192) * 64 + (b - 128)

-- the three bytes of a character
pub record IsThree (c a b d : ℕ) : Type 0 where
  pub low : 225 ≤ a
  pub high : a ≤ 239
  pub next_low : 128 ≤ b
  pub next_high : b ≤ 191
  pub last_low : 128 ≤ d
  pub last_high : d ≤ 191
  pub is : c ≡ (a - 224) * 4096 + (b - 128) * 64 + (d - 128)

two : (a b c : ℕ) → (is_in_range 0xc2 0xdf a && goes_on b) ≡ true → c ≡ (a - 192) * 64 + (b - 128) → IsTwo c a b
two a b c e is =
    let p = and_parts _ _ e in
    let first = in_range 0xc2 0xdf a p.0 in
    let next = in_range 0x80 0xbf b p.1 in
    record { low = first.0; high = first.1; next_low = next.0; next_high = next.1; is = is }

three : (a b d c : ℕ) → (is_in_range 0xe1 0xef a && (goes_on b && goes_on d)) ≡ true → c ≡ (a - 224) * 4096 + (b - 128) * 64 + (d - 128) → IsThree c a b d
three a b d c e is =
    let p = and_parts _ _ e in
    let q = and_parts _ _ p.1 in
    let first = in_range 0xe1 0xef a p.0 in
    let next = in_range 0x80 0xbf b q.0 in
    let last = in_range 0x80 0xbf d q.1 in
    record { low = first.0; high = first.1; next_low = next.0; next_high = next.1; last_low = last.0; last_high = last.1; is = is }

same : (x y : ℕ) → Some x ≡ Some y → y ≡ x
same x y e = cc

pub front_cases : (a b d c : ℕ) → front_char a b d ≡ Some c → ((a < 128) × (c ≡ a)) ⊎ (IsTwo c a b ⊎ IsThree c a b d)
unfolding front_char
front_cases a b d c =
    choose (nat_lt a 128) _ _ c _ (λ e h. inl (ltb-true a 128 e, same _ _ h))
    (λ n. choose (is_in_range 0xc2 0xdf a && goes_on b) _ _ c _ (λ e h. inr (inl (two a b c e (same _ _ h))))
    (λ m. choose (is_in_range 0xe1 0xef a && (goes_on b && goes_on d)) _ None c _ (λ e h. inr (inr (three a b d c e (same _ _ h)))) (λ l h. let never : ⊥ = cc in absurd never)))

pub encode_two : (c a b : ℕ) → IsTwo c a b → (encode c ≡ a ∷ b ∷ []) × (len_utf8 c ≡ 2)
unfolding encode
encode_two c a b t =
    let first : 192 + c / 64 ≡ a = omega arith in
    let next : 128 + c % 64 ≡ b = omega arith in
    let low : 128 ≤ c = omega arith in
    let high : c < 2048 = omega arith in
    (rw (le-ltb c 128 low, lt-ltb c 2048 high) (λ i. first i ∷ next i ∷ []), rw (le-ltb c 128 low, lt-ltb c 2048 high) refl)

pub encode_three : (c a b d : ℕ) → IsThree c a b d → (encode c ≡ a ∷ b ∷ d ∷ []) × (len_utf8 c ≡ 3)
unfolding encode
encode_three c a b d t =
    let first : 224 + c / 4096 ≡ a = omega arith in
    let next : 128 + (c / 64) % 64 ≡ b = omega arith in
    let last : 128 + c % 64 ≡ d = omega arith in
    let low : 2048 ≤ c = omega arith in
    let high : c < 65536 = omega arith in (
      rw (le-ltb c 128 (omega arith), le-ltb c 2048 low, lt-ltb c 65536 high) (λ i. first i ∷ next i ∷ last i ∷ []),
      rw (le-ltb c 128 (omega arith), le-ltb c 2048 low, lt-ltb c 65536 high) refl,
    )

kept : (o : Option ℕ) (c : ℕ) → if_hidden o ≡ Some c → (o ≡ Some c) × (is_hidden c ≡ true)
kept None c e = let never : ⊥ = cc in absurd never
kept (Some d) c e = choose (is_hidden d) (Some d) None c _ (λ is h. (h, subst (λ x. is_hidden x ≡ true) (sym (same d c h)) is)) (λ n h. let never : ⊥ = cc in absurd never) e

-- a hidden character at the front of a text, by its bytes
pub front_is : (text : List ℕ) (c : ℕ) → hidden_front text ≡ Some c
    → (is_hidden c ≡ true) × (((get_or text 0 0 ≡ 127) × (c ≡ 127)) ⊎ (IsTwo c (get_or text 0 0) (get_or text 1 0) ⊎ IsThree c (get_or text 0 0) (get_or text 1 0) (get_or text 2 0)))
unfolding hidden_front
front_is text c e =
    let k = kept (front_char (get_or text 0 0) (get_or text 1 0) (get_or text 2 0)) c e in (
      k.1,
      elim (front_cases _ _ _ c k.0) [
        | inl one ↦ let bounds = hidden_bounds c k.1 in inl (omega arith, omega arith)
        | inr more ↦ inr more
      ],
    )

-- a byte that is not zero is not past the end
inside : (text : List ℕ) (k : ℕ) → 0 < get_or text k 0 → k < length text
inside text k h = elim (cases_lt k (length text)) [ inl lt ↦ lt | inr ge ↦ let past : get_or text k 0 ≡ 0 = get_or_past text k 0 ge in absurd (omega arith) ]

-- a hidden character at the front of a text has a byte, and all of them are in the text
pub front_fits : (text : List ℕ) (c : ℕ) → hidden_front text ≡ Some c → (0 < len_utf8 c) × (len_utf8 c ≤ length text)
front_fits text c e =
    elim (front_is text c e).1 [
      | inl one ↦
          let size : len_utf8 c ≡ 1 = len_utf8_ascii c (omega arith) in
          let last : 0 < length text = inside text 0 (omega arith) in
          (omega arith, omega arith)
      | inr more ↦ elim more [
        | inl t ↦
            let size : len_utf8 c ≡ 2 = (encode_two c _ _ t).1 in
            let last : 1 < length text = inside text 1 (omega arith) in
            (omega arith, omega arith)
        | inr t ↦
            let size : len_utf8 c ≡ 3 = (encode_three c _ _ _ t).1 in
            let last : 2 < length text = inside text 2 (omega arith) in
            (omega arith, omega arith)
      ]
    ]

-- no hidden character begins with a byte below DEL
pub front_low : (b : ℕ) (text : List ℕ) → b < 127 → hidden_front (b ∷ text) ≡ None
unfolding hidden_front front_char
front_low b text low =
    let plain : is_hidden b ≡ false = false_from_ne_true (is_hidden b) (λ e. let bounds = hidden_bounds b e in absurd (omega arith)) in
    rw (lt-ltb b 128 (omega arith), plain)

-- a text that begins with no byte of a character of several
abbrev pub BeginsLow : List ℕ → Type 0
BeginsLow [] = Unit {0}
BeginsLow (b ∷ text) = b < 128

ends_char : (b : ℕ) → b < 128 → goes_on b ≡ false
ends_char b low = rw (lt-leb 128 b low)

ends_there : (text : List ℕ) → BeginsLow text → goes_on (get_or text 0 0) ≡ false
ends_there [] low = refl
ends_there (b ∷ text) low = ends_char b low

front_alone : (a b d : ℕ) → goes_on b ≡ false → front_char a b d ≡ (if nat_lt a 128 then Some a else None)
unfolding front_char
front_alone a b d e = rw (and_right (is_in_range 194 223 a) (goes_on b) e, and_right (is_in_range 225 239 a) (goes_on b && goes_on d) (and_left (goes_on b) (goes_on d) e))

front_pair : (a b d : ℕ) → goes_on d ≡ false → front_char a b d ≡ front_char a b 0
unfolding front_char
front_pair a b d e =
    rw (and_right (is_in_range 225 239 a) (goes_on b && goes_on d) (and_right (goes_on b) (goes_on d) e), and_right (is_in_range 225 239 a) (goes_on b && false) (and_right (goes_on b) false refl))

-- whether a hidden character begins a text does not depend on what follows from such a place on
pub front_same : (a : ℕ) (front text : List ℕ) → BeginsLow text → hidden_front (a ∷ (front ++ text)) ≡ hidden_front (a ∷ front)
unfolding hidden_front
front_same a [] text low = ap if_hidden (front_alone a (get_or text 0 0) (get_or text 1 0) (ends_there text low) ∙ sym (front_alone a 0 0 refl))
front_same a (b ∷ []) text low = ap if_hidden (front_pair a b (get_or text 0 0) (ends_there text low))
front_same a (b ∷ d ∷ front) text low = refl

-- ---- the characters that `hidden_front` finds are the hidden ones, in UTF-8

front_two : (text : List ℕ) → 1 < length text → text ≡ get_or text 0 0 ∷ get_or text 1 0 ∷ drop 2 text
front_two [] long = absurd (omega arith)
front_two (a ∷ []) long = absurd (omega arith)
front_two (a ∷ b ∷ text) long = refl

front_three : (text : List ℕ) → 2 < length text → text ≡ get_or text 0 0 ∷ get_or text 1 0 ∷ get_or text 2 0 ∷ drop 3 text
front_three [] long = absurd (omega arith)
front_three (a ∷ []) long = absurd (omega arith)
front_three (a ∷ b ∷ []) long = absurd (omega arith)
front_three (a ∷ b ∷ d ∷ text) long = refl

front_one : (text : List ℕ) (c : ℕ) → get_or text 0 0 ≡ 127 → c ≡ 127 → text ≡ encode c ++ drop 1 text
unfolding encode
front_one [] c first is = absurd (omega arith)
front_one (a ∷ text) c first is = rw is (ap (λ y. y ∷ text) first)

pub front_found : (text : List ℕ) (c : ℕ) → hidden_front text ≡ Some c → BeginsHidden c text
front_found text c e =
    let front = front_is text c e in (
      front.0,
      elim front.1 [
        | inl one ↦ (drop 1 text, front_one text c one.0 one.1)
        | inr more ↦ elim more [
          | inl t ↦ (drop 2 text, front_two text (inside text 1 (omega arith)) ∙ ap (λ l. l ++ drop 2 text) (sym (encode_two c _ _ t).0))
          | inr t ↦ (drop 3 text, front_three text (inside text 2 (omega arith)) ∙ ap (λ l. l ++ drop 3 text) (sym (encode_three c _ _ _ t).0))
        ]
      ],
    )

-- no hidden character begins with E0
hidden_gap : (c : ℕ) → is_hidden c ≡ true → (c < 2048) ⊎ (4096 ≤ c)
hidden_gap c e =
    elim (or_cases _ _ e) [
      | inl a ↦ let r = in_range 0x7f 0x9f c a in inl (omega arith)
      | inr o ↦ elim (or_cases _ _ o) [
        | inl a ↦ let r : c ≡ 0x61c = eqb-true c 0x61c a in inl (omega arith)
        | inr p ↦ elim (or_cases _ _ p) [
          | inl a ↦ let r = in_range 0x200e 0x200f c a in inr (omega arith)
          | inr q ↦ elim (or_cases _ _ q) [
            | inl a ↦ let r = in_range 0x202a 0x202e c a in inr (omega arith)
            | inr a ↦ let r = in_range 0x2066 0x2069 c a in inr (omega arith)
          ]
        ]
      ]
    ]

pub only_one : (rest : List ℕ) → hidden_front (encode 127 ++ rest) ≡ Some 127
unfolding hidden_front front_char encode
only_one rest = refl

pub only_two : (c a b : ℕ) (rest : List ℕ) → is_hidden c ≡ true → IsTwo c a b → hidden_front (a ∷ b ∷ rest) ≡ Some c
unfolding hidden_front front_char
only_two c a b rest is t =
    rw (le-ltb a 128 (omega arith), le-leb 194 a t.low, le-leb a 223 t.high, le-leb 128 b t.next_low, le-leb b 191 t.next_high)
    (subst (λ y. if_hidden (Some y) ≡ Some c) t.is (rw is))

pub only_three : (c a b d : ℕ) (rest : List ℕ) → is_hidden c ≡ true → IsThree c a b d → hidden_front (a ∷ b ∷ d ∷ rest) ≡ Some c
unfolding hidden_front front_char
only_three c a b d rest is t =
    rw (
      le-ltb a 128 (omega arith),
      le-leb 194 a (omega arith),
      lt-leb a 223 (omega arith),
      le-leb 225 a t.low,
      le-leb a 239 t.high,
      le-leb 128 b t.next_low,
      le-leb b 191 t.next_high,
      le-leb 128 d t.last_low,
      le-leb d 191 t.last_high,
    ) (subst (λ y. if_hidden (Some y) ≡ Some c) t.is (rw is))

is_two : (c : ℕ) → 128 ≤ c → c < 2048 → IsTwo c (192 + c / 64) (128 + c % 64)
is_two c low high = record { low = omega arith; high = omega arith; next_low = omega arith; next_high = omega arith; is = omega arith }

is_three : (c : ℕ) → 4096 ≤ c → c < 65536 → IsThree c (224 + c / 4096) (128 + c / 64 % 64) (128 + c % 64)
is_three c low high = record {
  low = omega arith;
  high = omega arith;
  next_low = omega arith;
  next_high = omega arith;
  last_low = omega arith;
  last_high = omega arith;
  is = omega arith;
}

pub front_only : (text : List ℕ) (c : ℕ) → BeginsHidden c text → hidden_front text ≡ Some c
front_only text c begins =
    let rest = begins.1.0 in
    let bounds = hidden_bounds c begins.0 in
    ap hidden_front begins.1.1
    ∙ elim (cases_lt c 128) [
      | inl small ↦ let is : c ≡ 127 = omega arith in subst (λ y. hidden_front (encode y ++ rest) ≡ Some y) (sym is) (only_one rest)
      | inr more ↦ elim (hidden_gap c begins.0) [
        | inl below ↦
            let two = is_two c more below in
            ap (λ l. hidden_front (l ++ rest)) (encode_two c _ _ two).0 ∙ only_two c _ _ rest begins.0 two
        | inr above ↦
            let three = is_three c above (omega arith) in
            ap (λ l. hidden_front (l ++ rest)) (encode_three c _ _ _ three).0 ∙ only_three c _ _ _ rest begins.0 three
      ]
    ]

pub found_front : (o : Option ℕ) (text : List ℕ) → o ≡ hidden_front text → IfSome o (λ c. BeginsHidden c text)
found_front None text e = tt
found_front (Some c) text e = front_found text c (sym e)
