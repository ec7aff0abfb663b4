use Rattle.std.proofs.Common.{ℕ, zero, suc, ◌≡◌, ◌<◌, ◌++◌, true, false, List, [], ◌∷◌, length, map, take, get_or, refl, sym, ap, ◌∙◌, append_assoc, append-nil, arith, if◌then◌else◌}
use Rattle.std.specs.Str.{IsUtf8, is_utf8}
use Rattle.std.proofs.lemmas.Str.{IsUtf8-from_is_utf8, is_utf8-from_IsUtf8}
use Rattle.hex.specs.Hex.{encode_lower}
use Rattle.json.specs.Token.{Token}
use Rattle.av_json.specs.Member.{joined, named_tokens, text_tokens}

-- one list of tokens more
pub joined_next : {A : Type 0} (f : A → List Token) (xs : List A) (i : ℕ) (d : A) → i < length xs → joined (map f (take (suc i) xs)) ≡ joined (map f (take i xs)) ++ f (get_or xs i d)
joined_next f [] i d lt = absurd (omega arith)
joined_next f (x ∷ xs) zero d lt = append-nil (f x)
joined_next f (x ∷ xs) (suc i) d lt =
    let lower : i < length xs = omega arith in
    ap (λ t. f x ++ t) (joined_next f xs i d lower) ∙ sym (append_assoc (f x) (joined (map f (take i xs))) (f (get_or xs i d)))

-- bytes that are UTF-8 stand as a text
pub named_text : (name digits_name bytes : List ℕ) → IsUtf8 bytes → named_tokens name digits_name bytes ≡ text_tokens name bytes
unfolding named_tokens
named_text name digits_name bytes is =
    ap (λ b. if b then text_tokens name bytes else text_tokens digits_name (encode_lower bytes)) (is_utf8-from_IsUtf8 bytes is)

-- others by their digits
pub named_digits : (name digits_name bytes : List ℕ) → ¬ (IsUtf8 bytes) → named_tokens name digits_name bytes ≡ text_tokens digits_name (encode_lower bytes)
unfolding named_tokens
named_digits name digits_name bytes is_not =
    (elim (is_utf8 bytes) as (λ v. is_utf8 bytes ≡ v → (if v then text_tokens name bytes else text_tokens digits_name (encode_lower bytes)) ≡ text_tokens digits_name (encode_lower bytes)) [
      | true ↦ λ e. absurd (is_not (IsUtf8-from_is_utf8 bytes e))
      | false ↦ λ e. refl
    ]) refl
