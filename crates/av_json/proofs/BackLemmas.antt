-- What is shown of printed tokens reads back as those tokens.
use Rattle.std.proofs.Common.{ℕ, ◌≡◌, ◌++◌, ◌&&◌, Bool, true, false, cond, List, [], ◌∷◌, Some, refl, sym, ap, ap₂, ◌∙◌, subst, append_assoc, arith, nat_lt}
use Rattle.std.proofs.lemmas.Bool.{and_parts, ltb-true}
use Rattle.std.proofs.lemmas.List.{append-nil}
use Rattle.json.specs.Lex.{Lexeme, between, colon, comma, fresh, lex, punctuate, string_token, token, tokens}
use Rattle.json.specs.Print.{ArePrintableOrBad, IsPrintableOrBad, begins, ends, escape, print, print_from, separator, token_text}
use Rattle.json.specs.Text.{content, plain}
use Rattle.json.specs.Token.{Token, bad, begin_array, begin_object, boolean, end_array, end_object, key, null, number, string}
use Rattle.json.specs.Word.{ends_word, word}
use Rattle.json.proofs.Numbered.{ArePrintableOrBad-tokens}
use Rattle.json.proofs.Printed.Numbers.{in_word-ended, lex-number}
use Rattle.av_json.proofs.FrontLemmas.{BeginsLow}
use Rattle.av_json.proofs.NumberLemmas.{number_low}
use Rattle.av_json.proofs.ReadsLemmas.{Reads, reads_escaped, reads_shown}
use Rattle.av_json.proofs.ShownLemmas.{are_low, shown_append, shown_low, shown_nothing}
use Rattle.av_json.specs.Shown.{shown, shown_before}

-- what a lexer finds in a token's text
abbrev lexemes_of : Token → List Lexeme
lexemes_of begin_object = token begin_object ∷ []
lexemes_of end_object = token end_object ∷ []
lexemes_of begin_array = token begin_array ∷ []
lexemes_of end_array = token end_array ∷ []
lexemes_of (key s) = token (string s) ∷ colon ∷ []
lexemes_of (string s) = token (string s) ∷ []
lexemes_of (number s) = token (number s) ∷ []
lexemes_of (boolean b) = token (boolean b) ∷ []
lexemes_of null = token null ∷ []
lexemes_of bad = []

abbrev lexemes : Bool → List Token → List Lexeme
lexemes after_value [] = []
lexemes after_value (t ∷ ts) = cond (after_value && begins t) (comma ∷ []) [] ++ (lexemes_of t ++ lexemes (ends t) ts)

-- ---- tokens whose strings are spelt in some way that reads as them

module _ (spelt : List ℕ → List ℕ) (reads : (s : List ℕ) → Reads s (spelt s)) where
  abbrev text_of : Token → List ℕ
  text_of begin_object = 123 ∷ []
  text_of end_object = 125 ∷ []
  text_of begin_array = 91 ∷ []
  text_of end_array = 93 ∷ []
  text_of (key s) = 34 ∷ (spelt s ++ 34 ∷ 58 ∷ [])
  text_of (string s) = 34 ∷ (spelt s ++ 34 ∷ [])
  text_of (number s) = s
  text_of (boolean b) = token_text (boolean b)
  text_of null = token_text null
  text_of bad = []

  abbrev printed : Bool → List Token → List ℕ
  printed after_value [] = []
  printed after_value (t ∷ ts) = separator after_value t ++ (text_of t ++ printed (ends t) ts)

  quoted_read : (s rest : List ℕ) → lex between (34 ∷ (spelt s ++ 34 ∷ rest)) ≡ token (string s) ∷ lex between rest
  unfolding lex content
  quoted_read s rest =
      let read : content plain (spelt s ++ 34 ∷ rest) ≡ Some s = (reads s).content (34 ∷ rest) ∙ ap Some (append-nil s) in
      ap₂ (λ o l. token (string_token o) ∷ l) read ((reads s).passed (34 ∷ rest))

  -- after a value comes a comma, a closing bracket or nothing
  value_ends : (ts : List Token) → ends_word (printed true ts) ≡ true
  value_ends [] = refl
  value_ends (begin_object ∷ ts) = refl
  value_ends (end_object ∷ ts) = refl
  value_ends (begin_array ∷ ts) = refl
  value_ends (end_array ∷ ts) = refl
  value_ends (key s ∷ ts) = refl
  value_ends (string s ∷ ts) = refl
  value_ends (number s ∷ ts) = refl
  value_ends (boolean b ∷ ts) = refl
  value_ends (null ∷ ts) = refl
  value_ends (bad ∷ ts) = refl

  token_read : (t : Token) (rest : List ℕ) → IsPrintableOrBad t → (ends t ≡ true → ends_word rest ≡ true) → lex between (text_of t ++ rest) ≡ lexemes_of t ++ lex between rest
  unfolding lex word
  token_read begin_object rest is ended = refl
  token_read end_object rest is ended = refl
  token_read begin_array rest is ended = refl
  token_read end_array rest is ended = refl
  token_read (key s) rest is ended = ap (λ l. lex between (34 ∷ l)) (append_assoc (spelt s) (34 ∷ 58 ∷ []) rest) ∙ quoted_read s (58 ∷ rest)
  token_read (string s) rest is ended = ap (λ l. lex between (34 ∷ l)) (append_assoc (spelt s) (34 ∷ []) rest) ∙ quoted_read s rest
  token_read (number s) rest is ended = lex-number s rest is (ended refl)
  token_read (boolean true) rest is ended = ap₂ (λ b l. token (cond b (boolean true) bad) ∷ l) (ended refl) (in_word-ended rest (ended refl))
  token_read (boolean false) rest is ended = ap₂ (λ b l. token (cond b (boolean false) bad) ∷ l) (ended refl) (in_word-ended rest (ended refl))
  token_read null rest is ended = ap₂ (λ b l. token (cond b null bad) ∷ l) (ended refl) (in_word-ended rest (ended refl))
  token_read bad rest is ended = refl

  comma_read : (b : Bool) (rest : List ℕ) → lex between (cond b (44 ∷ []) [] ++ rest) ≡ cond b (comma ∷ []) [] ++ lex between rest
  unfolding lex
  comma_read true rest = refl
  comma_read false rest = refl

  printed_read : (after_value : Bool) (ts : List Token) → ArePrintableOrBad ts → lex between (printed after_value ts) ≡ lexemes after_value ts
  unfolding lex
  printed_read after_value [] are = refl
  printed_read after_value (t ∷ ts) are =
      let rest = printed (ends t) ts in
      comma_read (after_value && begins t) (text_of t ++ rest)
      ∙ ap (λ l. cond (after_value && begins t) (comma ∷ []) [] ++ l)
      (token_read t rest are.0 (λ e. ap (λ b. ends_word (printed b ts)) e ∙ value_ends ts) ∙ ap (λ l. lexemes_of t ++ l) (printed_read (ends t) ts are.1))

-- ---- both ways to spell them

text_escaped : (t : Token) → token_text t ≡ text_of escape reads_escaped t
text_escaped begin_object = refl
text_escaped end_object = refl
text_escaped begin_array = refl
text_escaped end_array = refl
text_escaped (key s) = ap (λ l. 34 ∷ l) (append_assoc (escape s) (34 ∷ []) (58 ∷ []))
text_escaped (string s) = refl
text_escaped (number s) = refl
text_escaped (boolean b) = refl
text_escaped null = refl
text_escaped bad = refl

print_escaped : (after_value : Bool) (ts : List Token) → print_from after_value ts ≡ printed escape reads_escaped after_value ts
unfolding print_from
print_escaped after_value [] = refl
print_escaped after_value (t ∷ ts) = (λ i. separator after_value t ++ (text_escaped t i ++ print_escaped (ends t) ts i))

abbrev shown_text : Token → List ℕ
shown_text t = text_of (λ s. shown (escape s)) reads_shown t

quoted_shown : (s rest : List ℕ) → shown (34 ∷ (escape s ++ 34 ∷ rest)) ≡ 34 ∷ (shown (escape s) ++ shown (34 ∷ rest))
quoted_shown s rest = shown_low (34 ∷ []) (escape s ++ 34 ∷ rest) refl ∙ ap (λ l. 34 ∷ l) (shown_append (escape s) (34 ∷ rest) (omega arith))

text_shown : (t : Token) (rest : List ℕ) → IsPrintableOrBad t → shown (token_text t ++ rest) ≡ shown_text t ++ shown rest
text_shown begin_object rest is = shown_low (123 ∷ []) rest refl
text_shown end_object rest is = shown_low (125 ∷ []) rest refl
text_shown begin_array rest is = shown_low (91 ∷ []) rest refl
text_shown end_array rest is = shown_low (93 ∷ []) rest refl
text_shown (key s) rest is =
    ap (λ l. shown (34 ∷ l)) (append_assoc (escape s ++ 34 ∷ []) (58 ∷ []) rest ∙ append_assoc (escape s) (34 ∷ []) (58 ∷ rest))
    ∙ quoted_shown s (58 ∷ rest) ∙ ap (λ l. 34 ∷ (shown (escape s) ++ l)) (shown_low (34 ∷ 58 ∷ []) rest refl) ∙ ap (λ l. 34 ∷ l) (sym (append_assoc (shown (escape s)) (34 ∷ 58 ∷ []) (shown rest)))
text_shown (string s) rest is =
    ap (λ l. shown (34 ∷ l)) (append_assoc (escape s) (34 ∷ []) rest)
    ∙ quoted_shown s rest ∙ ap (λ l. 34 ∷ (shown (escape s) ++ l)) (shown_low (34 ∷ []) rest refl) ∙ ap (λ l. 34 ∷ l) (sym (append_assoc (shown (escape s)) (34 ∷ []) (shown rest)))
text_shown (number s) rest is = shown_low s rest (number_low s is)
text_shown (boolean true) rest is = shown_low (token_text (boolean true)) rest refl
text_shown (boolean false) rest is = shown_low (token_text (boolean false)) rest refl
text_shown null rest is = shown_low (token_text null) rest refl
text_shown bad rest is = refl

comma_low : (b : Bool) → are_low (cond b (44 ∷ []) []) ≡ true
comma_low true = refl
comma_low false = refl

print_shown : (after_value : Bool) (ts : List Token) → ArePrintableOrBad ts → shown (print_from after_value ts) ≡ printed (λ s. shown (escape s)) reads_shown after_value ts
unfolding print_from
print_shown after_value [] are = shown_nothing
print_shown after_value (t ∷ ts) are =
    let rest = print_from (ends t) ts in
    shown_low (separator after_value t) (token_text t ++ rest) (comma_low (after_value && begins t))
    ∙ ap (λ l. separator after_value t ++ l) (text_shown t rest are.0 ∙ ap (λ l. shown_text t ++ l) (print_shown (ends t) ts are.1))

-- ---- a line

printable : (ts : List Token) → tokens (print ts) ≡ ts → ArePrintableOrBad ts
printable ts back = subst ArePrintableOrBad back (ArePrintableOrBad-tokens (print ts))

pub tokens_shown : (ts : List Token) → tokens (print ts) ≡ ts → tokens (shown (print ts)) ≡ ts
tokens_shown ts back =
    let are = printable ts back in
    let same : lex between (shown (print ts)) ≡ lex between (print ts) =
    ap (lex between) (print_shown false ts are) ∙ printed_read (λ s. shown (escape s)) reads_shown false ts are
    ∙ sym (ap (lex between) (print_escaped false ts) ∙ printed_read escape reads_escaped false ts are)
    in
    ap (punctuate fresh) same ∙ back

begins_low : (front text : List ℕ) → are_low front ≡ true → BeginsLow text → BeginsLow (front ++ text)
begins_low [] text front_low low = low
begins_low (b ∷ front) text front_low low = omega (arith, ltb-true b 127 (and_parts (nat_lt b 127) (are_low front) front_low).0)

token_begins_low : (t : Token) (rest : List ℕ) → IsPrintableOrBad t → BeginsLow rest → BeginsLow (token_text t ++ rest)
token_begins_low begin_object rest is low = omega arith
token_begins_low end_object rest is low = omega arith
token_begins_low begin_array rest is low = omega arith
token_begins_low end_array rest is low = omega arith
token_begins_low (key s) rest is low = omega arith
token_begins_low (string s) rest is low = omega arith
token_begins_low (number s) rest is low = begins_low s rest (number_low s is) low
token_begins_low (boolean true) rest is low = omega arith
token_begins_low (boolean false) rest is low = omega arith
token_begins_low null rest is low = omega arith
token_begins_low bad rest is low = low

line_begins_low : (after_value : Bool) (ts : List Token) → ArePrintableOrBad ts → BeginsLow (print_from after_value ts ++ 10 ∷ [])
unfolding print_from
line_begins_low after_value [] are = omega arith
line_begins_low after_value (t ∷ ts) are =
    let rest = print_from (ends t) ts in
    let comma = separator after_value t in
    subst BeginsLow (sym (append_assoc comma (token_text t ++ rest) (10 ∷ []) ∙ ap (λ l. comma ++ l) (append_assoc (token_text t) rest (10 ∷ []))))
    (begins_low comma _ (comma_low (after_value && begins t)) (token_begins_low t (rest ++ 10 ∷ []) are.0 (line_begins_low (ends t) ts are.1)))

same_before : (before : List ℕ) → shown before ≡ shown_before before
same_before [] = shown_nothing
same_before (b ∷ before) = refl

pub line_shown : (before : List ℕ) (ts : List Token) → tokens (print ts) ≡ ts → shown ((before ++ print ts) ++ 10 ∷ []) ≡ shown_before before ++ (shown (print ts) ++ 10 ∷ [])
line_shown before ts back =
    let feed : shown (10 ∷ []) ≡ 10 ∷ [] = shown_low (10 ∷ []) [] refl ∙ ap (λ l. 10 ∷ l) shown_nothing in
    ap shown (append_assoc before (print ts) (10 ∷ [])) ∙ shown_append before (print ts ++ 10 ∷ []) (line_begins_low false ts (printable ts back))
    ∙ ap (λ l. l ++ shown (print ts ++ 10 ∷ [])) (same_before before) ∙ ap (λ l. shown_before before ++ l) (shown_append (print ts) (10 ∷ []) (omega arith) ∙ ap (λ l. shown (print ts) ++ l) feed)
