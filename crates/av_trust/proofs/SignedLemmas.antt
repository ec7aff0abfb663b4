-- What a signed file is.
use Rattle.std.proofs.Common.{◌≡◌, ℕ, zero, suc, ◌+◌, ◌*◌, ◌<◌, ◌&&◌, Bool, not, true, false, List, ◌∷◌, ◌++◌, length, take, drop, get_or, nat_lt, slice_index, codes, Result, Ok, Err, refl, sym, ap, ◌∙◌, arith, length-append, take-append-drop, take_at, drop_at, drop-drop}
use Rattle.std.proofs.lemmas.List.{drop_more, get_or-drop}
use Rattle.std.proofs.lemmas.Bool.Decides.{Decides-eqb, Decides-ltb}
use Rattle.std.proofs.lemmas.Slice.Eq.{bytes_eq-Decides}
use Rattle.std.specs.Prelude.{if◌then◌else◌}
use Rattle.hex.proofs.HexLemmas.{length-encode_with}
use Rattle.hex.specs.Hex.{lower_digits}
use Rattle.sha2.specs.Sha256.{digest_bytes, sha256}
use Rattle.av_trust.specs.Hmac.{hmac, keyed}
use Rattle.av_trust.specs.declared.trust.TrustFault.{TrustFault}
use Rattle.av_trust.specs.declared.trust.TrustFault.TheVariants.{BadLine, NotSigned, OtherKey}
use Rattle.av_trust.specs.Signed.{code_digits, has_line, is_coded, signed, trusted_of}

length-digest : (h : List ℕ) (n : ℕ) → length (digest_bytes h n) ≡ 4 * n
unfolding digest_bytes
length-digest h zero = refl
length-digest h (suc n) = let before = length-digest h n in length-append (digest_bytes h n) _ ∙ omega (arith, before)

length-keyed : (key text : List ℕ) → length (keyed key text) ≡ 32
unfolding keyed sha256
length-keyed key text = length-digest _ 8

length-hmac : (key text : List ℕ) → length (hmac key text) ≡ 32
length-hmac key text =
    elim (nat_lt 64 (length key)) as (λ v. length (if v then keyed (sha256 key) text else keyed key text) ≡ 32) [
      | true ↦ length-keyed (sha256 key) text
      | false ↦ length-keyed key text
    ]

length-code : (key text : List ℕ) → length (code_digits key text) ≡ 64
unfolding code_digits
length-code key text = let code = length-hmac key text in length-encode_with lower_digits (hmac key text) ∙ omega (arith, code)

and_parts : (a b : Bool) → (a && b) ≡ true → (a ≡ true) × (b ≡ true)
and_parts true true e = (refl, refl)
and_parts true false e = (refl, e)
and_parts false b e = let never : false ≡ true = e in cc

-- a file whose line has the code of the bytes behind it is these, signed
pub is_spelled : (key file : List ℕ) → has_line file ≡ true → take 64 (drop 11 file) ≡ code_digits key (drop 76 file) → file ≡ signed key (drop 76 file)
unfolding signed
is_spelled key file line code =
    let both = and_parts _ _ line in
    let inner = and_parts _ _ both.1 in
    let long : 75 < length file = (Decides-ltb 75 (length file)).0 inner.0 in
    let end_is : get_or file 75 0 ≡ 10 = (Decides-eqb (slice_index file 75) 10).0 inner.1 in
    let front : take 11 file ≡ codes "avsigned 1 " = (bytes_eq-Decides _ _).0 both.0 in
    let last : drop 75 file ≡ 10 ∷ drop 76 file = drop_more file 75 0 long ∙ ap (λ b. b ∷ drop 76 file) end_is in
    let digits : drop 11 file ≡ code_digits key (drop 76 file) ++ 10 ∷ drop 76 file =
    sym (take-append-drop 64 (drop 11 file)) ∙ rw (code, drop-drop 64 11 file, last) refl in
    sym (take-append-drop 11 file) ∙ rw (front, digits) refl

-- a test that came before was passed
kept : {X E : Type 0} (b : Bool) (e : E) (r : Result X E) (x : X) → (if not b then Err e else r) ≡ Ok x → (b ≡ true) × (r ≡ Ok x)
kept true e r x same = (refl, same)
kept false e r x same = cc

chosen : {X E : Type 0} (b : Bool) (e : E) (y x : X) → (if b then Ok y else Err e) ≡ Ok x → (b ≡ true) × (y ≡ x)
chosen true e y x same = (refl, cc)
chosen false e y x same = cc

both_true : (a b : Bool) → a ≡ true → b ≡ true → (a && b) ≡ true
both_true a b is_a is_b = rw (is_a, is_b) refl

passed : {R : Type 0} (b : Bool) (e r : R) → b ≡ true → (if not b then e else r) ≡ r
passed b e r is = rw is refl

taken : {R : Type 0} (b : Bool) (r e : R) → b ≡ true → (if b then r else e) ≡ r
taken b r e is = rw is refl

-- a file that is trusted is its text, signed
pub trusted_is_signed : (key file text : List ℕ) → trusted_of key file ≡ Ok text → file ≡ signed key text
unfolding trusted_of
trusted_is_signed key file text e =
    let first = kept _ _ _ text e in
    let second = kept (has_line file) _ _ text first.1 in
    let third = chosen (is_coded key file) _ (drop 76 file) text second.1 in
    let code : take 64 (drop 11 file) ≡ code_digits key (drop 76 file) = (bytes_eq-Decides _ _).0 third.0 in
    is_spelled key file second.0 code ∙ ap (signed key) third.1

-- the first line of a signed text
line_of_signed : (key text : List ℕ) → has_line (signed key text) ≡ true
unfolding signed
line_of_signed key text =
    let digits : List ℕ = code_digits key text in
    let long : length digits ≡ 64 = length-code key text in
    let all : length (digits ++ 10 ∷ text) ≡ 65 + length text = length-append digits (10 ∷ text) ∙ omega (arith, long) in
    let last : get_or (digits ++ 10 ∷ text) 64 0 ≡ 10 =
    sym (get_or-drop 64 (digits ++ 10 ∷ text) 0 0) ∙ ap (λ l. get_or l 0 0) (drop_at digits (10 ∷ text) 64 long) in
    both_true _ _ ((Decides-ltb 75 _).1 (omega (arith, all))) ((Decides-eqb _ 10).1 last)

-- a signed text is what was signed
pub signed_is_trusted : (key file text : List ℕ) → file ≡ signed key text → trusted_of key file ≡ Ok text
unfolding signed trusted_of
signed_is_trusted key file text e =
    let digits : List ℕ = code_digits key text in
    let long : length digits ≡ 64 = length-code key text in
    let behind : drop 65 (digits ++ 10 ∷ text) ≡ text = sym (drop-drop 1 64 (digits ++ 10 ∷ text)) ∙ ap (drop 1) (drop_at digits (10 ∷ text) 64 long) in
    let coded : is_coded key (signed key text) ≡ true =
    (bytes_eq-Decides _ _).1 (take_at digits (10 ∷ text) 64 long ∙ sym (ap (code_digits key) behind)) in
    let chosen_by : Result (List ℕ) TrustFault = if is_coded key (signed key text) then Ok (drop 76 (signed key text)) else Err OtherKey in
    let lined_by : Result (List ℕ) TrustFault = if not (has_line (signed key text)) then Err BadLine else chosen_by in
    ap (trusted_of key) e ∙ passed true (Err NotSigned) lined_by refl ∙ passed _ (Err BadLine) chosen_by (line_of_signed key text) ∙ taken (is_coded key (signed key text)) _ (Err OtherKey) coded ∙ ap (λ t. Ok t) behind
