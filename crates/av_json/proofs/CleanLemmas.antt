-- What is shown has no hidden character.
use Rattle.std.proofs.Common.{ℕ, zero, suc, ◌≡◌, ◌<◌, ◌≤◌, ◌-◌, ◌/◌, ◌%◌, ◌++◌, inl, inr, true, List, [], ◌∷◌, drop, get_or, Option, Some, None, nat_lt, refl, sym, ap, ◌∙◌, subst, arith}
use Rattle.std.proofs.lemmas.Bool.{and_parts, lt-ltb, ltb-true}
use Rattle.std.specs.Char.{digit_char, len_utf8}
use lib.Utf8.{encode}
use Rattle.av_json.proofs.FrontLemmas.{IsThree, front_is, front_low, front_only, hidden_bounds, only_one, only_three, only_two}
use Rattle.av_json.proofs.ReadsLemmas.{digit_is}
use Rattle.av_json.proofs.ShownLemmas.{are_low, shown_byte, shown_hidden, shown_nothing}
use Rattle.av_json.specs.Shown.{HasNothingHidden, front_char, hidden_front, shown, shown_after, unicode_escape}

-- no hidden character begins at any byte
abbrev IsClean : List ℕ → Type 0
IsClean [] = Unit {0}
IsClean (b ∷ text) = (hidden_front (b ∷ text) ≡ None) × IsClean text

clean_low : (front text : List ℕ) → are_low front ≡ true → IsClean text → IsClean (front ++ text)
clean_low [] text low clean = clean
clean_low (b ∷ front) text low clean =
    let both = and_parts (nat_lt b 127) (are_low front) low in
    (front_low b (front ++ text) (ltb-true b 127 both.0), clean_low front text both.1 clean)

digit_low : (d : ℕ) → d < 16 → nat_lt (digit_char d) 127 ≡ true
digit_low d small = lt-ltb (digit_char d) 127 (elim (digit_is d small) [ inl digit ↦ omega arith | inr letter ↦ omega arith ])

escape_low : (c : ℕ) → c < 65536 → are_low (unicode_escape c) ≡ true
unfolding unicode_escape
escape_low c small = rw (digit_low (c / 4096) (omega arith), digit_low (c / 256 % 16) (omega arith), digit_low (c / 16 % 16) (omega arith), digit_low (c % 16) (omega arith))

-- where what is shown begins with a byte of a character of several, so does the text
record BeginsHigh (text : List ℕ) : Type 0 where
  rest : List ℕ
  text_is : text ≡ get_or (shown text) 0 0 ∷ rest
  shown_is : shown text ≡ get_or (shown text) 0 0 ∷ shown rest

high_byte : (b : ℕ) (text : List ℕ) (o : Option ℕ) → hidden_front (b ∷ text) ≡ o → 128 ≤ get_or (shown (b ∷ text)) 0 0 → BeginsHigh (b ∷ text)
unfolding unicode_escape
high_byte b text None e high =
    let is = shown_byte b text e in
    record { rest = text; text_is = ap (λ l. get_or l 0 0 ∷ text) (sym is); shown_is = is ∙ ap (λ l. get_or l 0 0 ∷ shown text) (sym is) }
high_byte b text (Some c) e high =
    let first : get_or (shown (b ∷ text)) 0 0 ≡ 92 = ap (λ l. get_or l 0 0) (shown_hidden b text c e) in
    absurd (omega arith)

begins_high : (text : List ℕ) → 128 ≤ get_or (shown text) 0 0 → BeginsHigh text
begins_high [] high = let first : get_or (shown []) 0 0 ≡ 0 = ap (λ l. get_or l 0 0) shown_nothing in absurd (omega arith)
begins_high (b ∷ text) high = high_byte b text (hidden_front (b ∷ text)) refl high

-- a hidden character before what is shown is one before the text
stays_hidden : (b : ℕ) (text : List ℕ) (c : ℕ) → hidden_front (b ∷ shown text) ≡ Some c → hidden_front (b ∷ text) ≡ Some c
unfolding encode
stays_hidden b text c e =
    let front = front_is (b ∷ shown text) c e in
    elim front.1 [
      | inl one ↦ ap (λ x. hidden_front (x ∷ text)) one.0 ∙ only_one text ∙ ap Some (sym one.1)
      | inr more ↦ elim more [
        | inl t ↦
            let next = begins_high text (omega arith) in
            ap (λ l. hidden_front (b ∷ l)) next.text_is ∙ only_two c b _ next.rest front.0 t
        | inr t ↦
            let next = begins_high text (omega arith) in
            let same : get_or (shown text) 1 0 ≡ get_or (shown next.rest) 0 0 = ap (λ l. get_or l 1 0) next.shown_is in
            let last = begins_high next.rest (omega arith) in
            ap (λ l. hidden_front (b ∷ l)) (next.text_is ∙ ap (λ l. get_or (shown text) 0 0 ∷ l) last.text_is)
            ∙ only_three c b _ _ last.rest front.0 (subst (IsThree c b (get_or (shown text) 0 0)) same t)
      ]
    ]

clean_byte : (b : ℕ) (text : List ℕ) → ((left : ℕ) → IsClean (shown_after left text)) → (o : Option ℕ) → hidden_front (b ∷ text) ≡ o → IsClean (shown (b ∷ text))
clean_byte b text more None e = subst IsClean (sym (shown_byte b text e)) (none (hidden_front (b ∷ shown text)) refl, more 0)
  where
    none : (o : Option ℕ) → hidden_front (b ∷ shown text) ≡ o → hidden_front (b ∷ shown text) ≡ None
    none None is = is
    none (Some c) is = let never : Some c ≡ None = sym (stays_hidden b text c is) ∙ e in absurd cc
clean_byte b text more (Some c) e = subst IsClean (sym (shown_hidden b text c e)) (clean_low (unicode_escape c) _ (escape_low c (let bounds = hidden_bounds c (front_is (b ∷ text) c e).0 in omega arith)) (more (len_utf8 c - 1)))

clean_after : (left : ℕ) (text : List ℕ) → IsClean (shown_after left text)
unfolding shown_after
clean_after zero [] = tt
clean_after (suc left) [] = tt
clean_after (suc left) (b ∷ text) = clean_after left text
clean_after zero (b ∷ text) = clean_byte b text (λ left. clean_after left text) (hidden_front (b ∷ text)) refl

clean_at : (text : List ℕ) (at : ℕ) → IsClean text → hidden_front (drop at text) ≡ None
unfolding hidden_front front_char
clean_at [] zero clean = refl
clean_at [] (suc at) clean = refl
clean_at (b ∷ text) zero clean = clean.0
clean_at (b ∷ text) (suc at) clean = clean_at text at clean.1

pub nothing_hidden : (text : List ℕ) → HasNothingHidden (shown text)
nothing_hidden text at c begins =
    let some = front_only (drop at (shown text)) c begins in
    let never : Some c ≡ None = sym some ∙ clean_at (shown text) at (clean_after 0 text) in
    absurd cc
