use Rattle.std.proofs.Common.{ℕ, zero, suc, ◌≡◌, ◌+◌, ◌*◌, ◌%◌, true, false, nat_eq, List, [], ◌∷◌, ◌++◌, length, cond, Ok, refl, ap, ◌∙◌, arith}
use Rattle.std.specs.Prelude.{codes}
use Rattle.hex.proofs.HexLemmas.{decode_of-even}
use Rattle.hex.specs.Hex.{decode_pairs, ◌>>=◌}
use Rattle.av_script.specs.Script.Grammar.{is_content, is_hex, is_pattern, spells_bytes}
use Rattle.av_generate.proofs.PieceLemmas.{Lacks, one_piece}
use Rattle.av_generate.specs.Draws.{below}
use Rattle.av_generate.specs.Words.{byte_drawn, bytes_drawn, or_hyphen}

-- what holds of both bytes holds of the one that is drawn
pub by_byte : (P : List ℕ → Type 0) → P (codes "41") → P (codes "42") → (s : ℕ) → P (byte_drawn s).0
unfolding byte_drawn
by_byte P a b s = elim (nat_eq (below 2 s).0 0) as (λ v. P (cond v (codes "41") (codes "42"))) [ true ↦ a | false ↦ b ]

-- so many bytes are read back as so many
pub bytes_decode : (n s i : ℕ) → (bs : List ℕ) × (decode_pairs i (bytes_drawn n s).0 ≡ Ok bs) × (length bs ≡ n)
unfolding decode_pairs
bytes_decode zero s i = ([], refl, refl)
bytes_decode (suc n) s i =
    let r = bytes_decode n (byte_drawn s).1 (i + 2) in
    let rest = (bytes_drawn n (byte_drawn s).1).0 in
    by_byte (λ b. (bs : List ℕ) × (decode_pairs i (b ++ rest) ≡ Ok bs) × (length bs ≡ suc n))
    (65 ∷ r.0, ap (λ x. x >>= (λ bytes. Ok (65 ∷ bytes))) r.1, ap suc r.2)
    (66 ∷ r.0, ap (λ x. x >>= (λ bytes. Ok (66 ∷ bytes))) r.1, ap suc r.2)
    s

-- they are pairs of digits
bytes_even : (n s : ℕ) → length (bytes_drawn n s).0 ≡ 2 * n
bytes_even zero s = refl
bytes_even (suc n) s =
    let rest = (bytes_drawn n (byte_drawn s).1).0 in
    let r = bytes_even n (byte_drawn s).1 in
    by_byte (λ b. length (b ++ rest) ≡ 2 * suc n) (omega (arith, r)) (omega (arith, r)) s

-- with no byte but the digits 1, 2 and 4
pub bytes_lack : (c n s : ℕ) → nat_eq 49 c ≡ false → nat_eq 50 c ≡ false → nat_eq 52 c ≡ false → Lacks c (bytes_drawn n s).0
bytes_lack c zero s one two four = tt
bytes_lack c (suc n) s one two four =
    let rest = (bytes_drawn n (byte_drawn s).1).0 in
    let r = bytes_lack c n (byte_drawn s).1 one two four in
    by_byte (λ b. Lacks c (b ++ rest)) (four, (one, r)) (four, (two, r)) s

-- one byte or more are some
some_bytes : (bs : List ℕ) (n : ℕ) → length bs ≡ suc n → spells_bytes (Ok bs) ≡ true
some_bytes [] n e = absurd (omega (arith, e))
some_bytes (b ∷ bs) n e = refl

-- one byte or more is a word in hexadecimal
pub bytes_are_hex : (n s : ℕ) → is_hex (bytes_drawn (suc n) s).0 ≡ true
bytes_are_hex n s =
    let text = (bytes_drawn (suc n) s).0 in
    let r = bytes_decode (suc n) s 0 in
    let even : length text % 2 ≡ 0 = omega (arith, bytes_even (suc n) s) in
    ap spells_bytes (decode_of-even text even ∙ r.1) ∙ some_bytes r.0 n r.2

-- and a pattern, and a content
pub bytes_are_pattern : (n s : ℕ) → is_pattern (bytes_drawn (suc n) s).0 ≡ true
bytes_are_pattern n s =
    let piece = one_piece 64 (bytes_drawn (suc n) s).0 (bytes_lack 64 (suc n) s refl refl refl) in
    let hex = bytes_are_hex n s in rw (piece, hex) refl

pub bytes_are_content : (n s : ℕ) → is_content (or_hyphen (bytes_drawn n s).0) ≡ true
bytes_are_content zero s = refl
bytes_are_content (suc n) s =
    let rest = (bytes_drawn n (byte_drawn s).1).0 in
    by_byte (λ b. is_hex (b ++ rest) ≡ true → is_content (or_hyphen (b ++ rest)) ≡ true) (λ h. h) (λ h. h) s (bytes_are_hex n s)

pub content_lacks : (n s : ℕ) → Lacks 32 (or_hyphen (bytes_drawn n s).0)
content_lacks zero s = (refl, tt)
content_lacks (suc n) s =
    let rest = (bytes_drawn n (byte_drawn s).1).0 in
    by_byte (λ b. Lacks 32 (b ++ rest) → Lacks 32 (or_hyphen (b ++ rest))) (λ h. h) (λ h. h) s
    (bytes_lack 32 (suc n) s refl refl refl)
