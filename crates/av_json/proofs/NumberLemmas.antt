-- A number of JSON has only bytes below DEL.
use Rattle.std.proofs.Common.{ℕ, suc, ◌≡◌, ◌<◌, ◌+◌, ◌||◌, ◌==◌, inl, inr, Bool, true, false, List, [], ◌∷◌, drop, Option, Some, None, cond, option_and_then, refl, ap, ◌∙◌, subst, arith}
use Rattle.std.proofs.lemmas.Bool.{and_from, and_parts, eqb-true, leb-true, lt-ltb, or_cases}
use Rattle.std.specs.Char.{is_ascii_digit}
use Rattle.std.specs.List.{prefix_len}
use Rattle.json.specs.Print.{IsNumber}
use Rattle.json.specs.Word.{after_digits, after_exponent, after_fraction, after_minus, after_number, after_sign, after_whole, head}
use Rattle.av_json.proofs.ShownLemmas.{are_low}

-- what a part of a number passes over is low: the text is, if what the part leaves of it is
abbrev Passes : List ℕ → Option (List ℕ) → Type 0
Passes text None = Unit {0}
Passes text (Some rest) = are_low rest ≡ true → are_low text ≡ true

further : (text rest : List ℕ) (o : Option (List ℕ)) → (are_low rest ≡ true → are_low text ≡ true) → Passes rest o → Passes text o
further text rest None f p = tt
further text rest (Some left) f p = λ low. f (p low)

either : (text : List ℕ) (b : Bool) (x y : Option (List ℕ)) → (b ≡ true → Passes text x) → Passes text y → Passes text (cond b x y)
either text true x y p q = p refl
either text false x y p q = q

in_turn : (text : List ℕ) (f : List ℕ → Option (List ℕ)) (o : Option (List ℕ)) → ((rest : List ℕ) → Passes rest (f rest)) → Passes text o → Passes text (option_and_then f o)
in_turn text f None p q = tt
in_turn text f (Some rest) p q = further text rest (f rest) q (p rest)

-- a byte
one : (b : ℕ) (text : List ℕ) → b < 127 → (head text == b) ≡ true → are_low (drop 1 text) ≡ true → are_low text ≡ true
one b [] small e low = refl
one b (x ∷ text) small e low = let is : x ≡ b = eqb-true x b e in and_from _ _ (lt-ltb x 127 (omega arith)) low

one_of : (a b : ℕ) (text : List ℕ) → a < 127 → b < 127 → ((head text == a) || (head text == b)) ≡ true → are_low (drop 1 text) ≡ true → are_low text ≡ true
one_of a b text small also e = elim (or_cases _ _ e) [ inl is ↦ one a text small is | inr is ↦ one b text also is ]

maybe : (b : Bool) (text : List ℕ) → (b ≡ true → are_low (drop 1 text) ≡ true → are_low text ≡ true) → are_low (cond b (drop 1 text) text) ≡ true → are_low text ≡ true
maybe true text f = f refl
maybe false text f = λ low. low

-- digits
digit_low : (x : ℕ) → is_ascii_digit x ≡ true → x < 127
digit_low x e = omega (arith, leb-true x 57 (and_parts _ _ e).1)

run_byte : (digit : Bool) (x n : ℕ) (text : List ℕ) → (digit ≡ true → x < 127) → (are_low (drop n text) ≡ true → are_low text ≡ true)
    → are_low (drop (cond digit (1 + n) 0) (x ∷ text)) ≡ true → are_low (x ∷ text) ≡ true
run_byte false x n text small more low = low
run_byte true x n text small more low =
    let next : suc n ≡ 1 + n = omega arith in
    and_from _ _ (lt-ltb x 127 (small refl)) (more (ap (λ k. are_low (drop k (x ∷ text))) next ∙ low))

run : (text : List ℕ) → are_low (drop (prefix_len is_ascii_digit text) text) ≡ true → are_low text ≡ true
run [] low = refl
run (x ∷ text) low = run_byte (is_ascii_digit x) x (prefix_len is_ascii_digit text) text (digit_low x) (run text) low

digits : (text : List ℕ) → Passes text (after_digits text)
digits text = either text (prefix_len is_ascii_digit text == 0) None _ (λ e. tt) (run text)

whole : (text : List ℕ) → Passes text (after_whole text)
whole text = either text (head text == 48) (Some (drop 1 text)) _ (one 48 text (omega arith)) (digits text)

fraction : (text : List ℕ) → Passes text (after_fraction text)
fraction text = either text (head text == 46) _ (Some text) (λ e. further text (drop 1 text) _ (one 46 text (omega arith) e) (digits (drop 1 text))) (λ low. low)

signed : (text : List ℕ) → Passes text (after_digits (after_sign text))
signed text =
    further text (after_sign text) _ (maybe ((head text == 45) || (head text == 43)) text (one_of 45 43 text (omega arith) (omega arith))) (digits (after_sign text))

exponent : (text : List ℕ) → Passes text (after_exponent text)
exponent text =
    either text ((head text == 101) || (head text == 69)) _ (Some text)
    (λ e. further text (drop 1 text) _ (one_of 101 69 text (omega arith) (omega arith) e) (signed (drop 1 text))) (λ low. low)

number : (text : List ℕ) → Passes text (after_number text)
unfolding after_number
number text =
    let rest = after_minus text in
    in_turn text after_exponent _ exponent (in_turn text after_fraction _ fraction
    (further text rest _ (maybe (head text == 45) text (one 45 text (omega arith))) (whole rest)))

pub number_low : (text : List ℕ) → IsNumber text → are_low text ≡ true
number_low text is = let passed : Passes text (Some []) = subst (Passes text) is (number text) in passed refl
