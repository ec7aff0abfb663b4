-- A name as a line has it is one line.
use Rattle.std.proofs.Common.{ℕ, ◌≡◌, ◌≤◌, ◌++◌, ◌||◌, ◌==◌, Bool, false, true, if◌then◌else◌, List, [], ◌∷◌, refl, arith, rules}
use Rattle.av_files.specs.Quoted.{IsOneLine, escape, escaped, escaped_byte, first_of, has_control, is_control, is_quoted, octal}

-- two pieces of a line are one
joined : (xs ys : List ℕ) → IsOneLine xs → IsOneLine ys → IsOneLine (xs ++ ys)
joined [] ys one other = other
joined (x ∷ xs) ys one other = (one.0, joined xs ys one.1 other)

either : (b : Bool) (xs ys : List ℕ) → IsOneLine xs → IsOneLine ys → IsOneLine (if b then xs else ys)
either true xs ys one other = one
either false xs ys one other = other

letter : (b : ℕ) → 32 ≤ b → IsOneLine (92 ∷ b ∷ [])
letter b above = (omega arith, (above, tt))

octal_one : (b : ℕ) → IsOneLine (octal b)
octal_one b = (omega arith, (omega arith, (omega arith, (omega arith, tt))))

escape_one : (b : ℕ) → IsOneLine (escape b)
escape_one b =
    either (b == 7) _ _ (letter 97 (omega arith))
    (either (b == 8) _ _ (letter 98 (omega arith))
    (either (b == 9) _ _ (letter 116 (omega arith))
    (either (b == 10) _ _ (letter 110 (omega arith))
    (either (b == 11) _ _ (letter 118 (omega arith))
    (either (b == 12) _ _ (letter 102 (omega arith))
    (either (b == 13) _ _ (letter 114 (omega arith)) (octal_one b)))))))

-- what is no control character is not below 32
above : (before b next : ℕ) → is_control before b next ≡ false → 32 ≤ b
above before b next none = search rules

plain_one : (before b next : ℕ) (is : Bool) → is_control before b next ≡ is → IsOneLine (if is then escape b else (if (b == 34) || (b == 92) then 92 ∷ b ∷ [] else b ∷ []))
plain_one before b next true is = escape_one b
plain_one before b next false is = let high = above before b next is in either ((b == 34) || (b == 92)) _ _ (letter b high) (high, tt)

escaped_one : (before : ℕ) (bytes : List ℕ) → IsOneLine (escaped before bytes)
escaped_one before [] = tt
escaped_one before (b ∷ bytes) =
    joined (escaped_byte before b (first_of bytes)) (escaped b bytes)
    (plain_one before b (first_of bytes) (is_control before b (first_of bytes)) refl) (escaped_one b bytes)

neither : (p q : Bool) → (p || q) ≡ false → (p ≡ false) × (q ≡ false)
neither true q e = absurd (search rules)
neither false q e = (refl, e)

-- a name without a control character
bare_one : (before : ℕ) (bytes : List ℕ) → has_control before bytes ≡ false → IsOneLine bytes
bare_one before [] none = tt
bare_one before (b ∷ bytes) none =
    let both = neither (is_control before b (first_of bytes)) (has_control b bytes) none in
    (above before b (first_of bytes) both.0, bare_one b bytes both.1)

-- a name that needs no quotes is one line
pub bare_line : (name : List ℕ) → is_quoted name ≡ false → IsOneLine name
bare_line name none = bare_one 0 name ((neither (has_control 0 name) (first_of name == 34) none).0)

-- one in quotes is
pub quoted_line : (name : List ℕ) → IsOneLine (34 ∷ (escaped 0 name ++ 34 ∷ []))
quoted_line name = (omega arith, joined (escaped 0 name) (34 ∷ []) (escaped_one 0 name) (omega arith, tt))
