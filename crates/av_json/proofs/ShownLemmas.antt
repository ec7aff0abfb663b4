use Rattle.std.proofs.Common.{ℕ, zero, suc, ◌≡◌, ◌<◌, ◌≤◌, ◌+◌, ◌-◌, ◌++◌, List, [], ◌∷◌, length, take, drop, get_or, Option, Some, None, refl, sym, ap, ◌∙◌, append_assoc, arith, Bool, true, nat_lt, ◌&&◌}
use Rattle.std.proofs.lemmas.List.{append-nil, drop_all, drop_more, take_all, take_more, drop-drop, length-drop}
use Rattle.std.proofs.lemmas.Bool.{and_parts, ltb-true}
use Rattle.std.specs.Char.{len_utf8}
use Rattle.av_json.specs.Shown.{hidden_front, shown, shown_after, shown_front, unicode_escape}
use Rattle.av_json.proofs.FrontLemmas.{BeginsLow, front_fits, front_low, front_same}

pub shown_nothing : shown [] ≡ []
unfolding shown_after
shown_nothing = refl

-- a text without its first bytes
pub shown_after-drop : (left : ℕ) (text : List ℕ) → shown_after left text ≡ shown (drop left text)
unfolding shown_after
shown_after-drop zero text = refl
shown_after-drop (suc left) [] = refl
shown_after-drop (suc left) (b ∷ text) = shown_after-drop left text

-- the first byte stays where no hidden character begins
pub shown_byte : (b : ℕ) (text : List ℕ) → hidden_front (b ∷ text) ≡ None → shown (b ∷ text) ≡ b ∷ shown text
unfolding shown_after
shown_byte b text e = ap (λ o. shown_front o b (λ left. shown_after left text)) e

pub shown_hidden : (b : ℕ) (text : List ℕ) (c : ℕ) → hidden_front (b ∷ text) ≡ Some c → shown (b ∷ text) ≡ unicode_escape c ++ shown_after (len_utf8 c - 1) text
unfolding shown_after
shown_hidden b text c e = ap (λ o. shown_front o b (λ left. shown_after left text)) e

-- one byte more stays
pub shown_next : (text : List ℕ) (at : ℕ) → at < length text → hidden_front (drop at text) ≡ None
    → shown text ≡ take at text ++ shown (drop at text) → shown text ≡ take (at + 1) text ++ shown (drop (at + 1) text)
shown_next text at inside none so =
    let byte = get_or text at 0 in
    let rest = drop (at + 1) text in
    let more = drop_more text at 0 inside in
    let step : shown (drop at text) ≡ byte ∷ shown rest = ap shown more ∙ shown_byte byte rest (ap hidden_front (sym more) ∙ none) in
    so ∙ ap (λ t. take at text ++ t) step ∙ sym (append_assoc (take at text) (byte ∷ []) (shown rest)) ∙ ap (λ t. t ++ shown rest) (sym (take_more text at 0 inside))

-- a hidden character after bytes that stay
pub shown_found : (text : List ℕ) (at c : ℕ) → at < length text → hidden_front (drop at text) ≡ Some c → shown text ≡ take at text ++ shown (drop at text)
    → (at + len_utf8 c ≤ length text) × (shown text ≡ take at text ++ (unicode_escape c ++ shown (drop (at + len_utf8 c) text)))
shown_found text at c inside some so =
    let more = drop_more text at 0 inside in
    let fits = front_fits (drop at text) c some in
    let behind : at + 1 + (len_utf8 c - 1) ≡ at + len_utf8 c = omega arith in
    let step : shown (drop at text) ≡ unicode_escape c ++ shown (drop (at + len_utf8 c) text) =
    ap shown more ∙ shown_hidden (get_or text at 0) (drop (at + 1) text) c (ap hidden_front (sym more) ∙ some)
    ∙ ap (λ t. unicode_escape c ++ t) (shown_after-drop (len_utf8 c - 1) (drop (at + 1) text) ∙ ap shown (drop-drop (len_utf8 c - 1) (at + 1) text ∙ ap (λ n. drop n text) behind))
    in
    (omega (arith, length-drop at text), so ∙ ap (λ t. take at text ++ t) step)

-- nothing is left
pub shown_end : (text : List ℕ) (at : ℕ) → length text ≤ at → shown text ≡ take at text ++ shown (drop at text) → shown text ≡ text
unfolding shown_after
shown_end text at past so = so ∙ (λ i. take_all at text past i ++ shown (drop_all at text past i)) ∙ append-nil text

-- what was written, and a hidden character behind bytes that stay
pub shown_split : (text done rest plain behind escaped : List ℕ) (at code len : ℕ) → shown text ≡ done ++ shown rest
    → shown rest ≡ take at rest ++ (unicode_escape code ++ shown (drop (at + len_utf8 code) rest)) → plain ≡ take at rest → behind ≡ drop at rest
    → escaped ≡ unicode_escape code → len ≡ len_utf8 code → shown text ≡ done ++ (plain ++ (escaped ++ shown (drop len behind)))
shown_split text done rest plain behind escaped at code len so found is_plain is_behind is_escaped is_len =
    let left : drop (at + len_utf8 code) rest ≡ drop len behind =
    ap (λ n. drop (at + n) rest) (sym is_len) ∙ sym (drop-drop len at rest) ∙ ap (drop len) (sym is_behind)
    in
    so ∙ ap (λ t. done ++ t) (found ∙ (λ i. sym is_plain i ++ (sym is_escaped i ++ shown (left i))))

append_byte : (b : ℕ) (front text : List ℕ) → ((left : ℕ) → left ≤ length front → shown_after left (front ++ text) ≡ shown_after left front ++ shown text) → BeginsLow text
    → (o : Option ℕ) → hidden_front (b ∷ front) ≡ o → shown (b ∷ (front ++ text)) ≡ shown (b ∷ front) ++ shown text
append_byte b front text more low None e =
    shown_byte b (front ++ text) (front_same b front text low ∙ e) ∙ ap (λ t. b ∷ t) (more 0 (omega arith)) ∙ ap (λ t. t ++ shown text) (sym (shown_byte b front e))
append_byte b front text more low (Some c) e =
    let fits = front_fits (b ∷ front) c e in
    shown_hidden b (front ++ text) c (front_same b front text low ∙ e) ∙ ap (λ t. unicode_escape c ++ t) (more (len_utf8 c - 1) (omega arith))
    ∙ sym (append_assoc (unicode_escape c) (shown_after (len_utf8 c - 1) front) (shown text)) ∙ ap (λ t. t ++ shown text) (sym (shown_hidden b front c e))

append_after : (left : ℕ) (front text : List ℕ) → left ≤ length front → BeginsLow text → shown_after left (front ++ text) ≡ shown_after left front ++ shown text
unfolding shown_after
append_after zero [] text within low = refl
append_after (suc left) [] text within low = absurd (omega arith)
append_after zero (b ∷ front) text within low = append_byte b front text (λ left so. append_after left front text so low) low (hidden_front (b ∷ front)) refl
append_after (suc left) (b ∷ front) text within low = append_after left front text (omega arith) low

-- texts are shown one by one where the second begins with no byte of a character of several
pub shown_append : (front text : List ℕ) → BeginsLow text → shown (front ++ text) ≡ shown front ++ shown text
shown_append front text low = append_after 0 front text (omega arith) low

-- bytes below DEL
abbrev pub are_low : List ℕ → Bool
are_low [] = true
are_low (b ∷ text) = nat_lt b 127 && are_low text

-- they stay
pub shown_low : (front text : List ℕ) → are_low front ≡ true → shown (front ++ text) ≡ front ++ shown text
shown_low [] text low = refl
shown_low (b ∷ front) text low =
    let both = and_parts (nat_lt b 127) (are_low front) low in
    shown_byte b (front ++ text) (front_low b (front ++ text) (ltb-true b 127 both.0)) ∙ ap (λ t. b ∷ t) (shown_low front text both.1)
