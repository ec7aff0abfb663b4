use Rattle.std.proofs.Common.{ℕ, zero, suc, ◌≡◌, ◌<◌, ◌-◌, ◌+◌, ◌^◌, ◌++◌, List, [], ◌∷◌, ap, arith, append_assoc}
use Rattle.av_generate.specs.Words.{Drawn, behind, byte_drawn, bytes_drawn, capped, hex_drawn, patterns_drawn}
use Rattle.av_generate.specs.Lent.{places_behind}
use Rattle.std.specs.Prelude.{codes}

-- a text in front of one in front of another
pub behind_both : (a b : List ℕ) (d : Drawn) → behind (a ++ b) d ≡ behind a (behind b d)
behind_both a b d = ap (λ t. let r : Drawn = (t, d.1) in r) (append_assoc a b d.0)

-- one byte more stands in front of the bytes that are left
pub byte_passed : (t : List ℕ) (n s : ℕ) → 0 < n
    → behind (t ++ (byte_drawn s).0) (bytes_drawn (n - 1) (byte_drawn s).1) ≡ behind t (bytes_drawn n s)
byte_passed t zero s lt = absurd (omega arith)
byte_passed t (suc n) s lt =
    let less : suc n - 1 ≡ n = omega arith in rw less (behind_both t (byte_drawn s).0 (bytes_drawn n (byte_drawn s).1))

-- one pattern more stands in front of those that are left
pub pattern_passed : (t : List ℕ) (n s : ℕ) → 0 < n
    → behind (t ++ codes " " ++ (hex_drawn 1 2 s).0) (patterns_drawn (n - 1) (hex_drawn 1 2 s).1) ≡ behind t (patterns_drawn n s)
pattern_passed t zero s lt = absurd (omega arith)
pattern_passed t (suc n) s lt =
    let less : suc n - 1 ≡ n = omega arith in
    rw (less, append_assoc t (codes " ") (hex_drawn 1 2 s).0)
    (behind_both t (codes " " ++ (hex_drawn 1 2 s).0) (patterns_drawn n (hex_drawn 1 2 s).1))

-- no u64 is capped
pub capped_same : (n : ℕ) → n < 2 ^ 64 → capped n ≡ n
capped_same n h = omega arith

-- one place more stands behind the others
pub place_passed : (ks : List ℕ) (from n : ℕ) → 0 < n
    → (ks ++ (from + 1) ∷ []) ++ places_behind (from + 1) (n - 1) ≡ ks ++ places_behind from n
place_passed ks from zero lt = absurd (omega arith)
place_passed ks from (suc n) lt =
    let less : suc n - 1 ≡ n = omega arith in rw less (append_assoc ks ((from + 1) ∷ []) (places_behind (from + 1) n))
