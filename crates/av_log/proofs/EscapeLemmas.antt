use Rattle.std.proofs.Common.{ℕ, zero, suc, ◌≡◌, ◌<◌, ◌/◌, ◌%◌, ◌++◌, true, false, if◌then◌else◌, List, [], ◌∷◌, refl, arith}
use Rattle.std.specs.Char.{digit_char}
use Rattle.std.specs.List.{AllByRecursion}
use Rattle.av_log.specs.Words.{escaped, escaped_byte, is_kept_in, is_plain}

-- a digit can stand between quotes
digit_kept : (n : ℕ) → n < 16 → is_kept_in (digit_char n) ≡ true
digit_kept zero low = refl
digit_kept (suc zero) low = refl
digit_kept (suc (suc zero)) low = refl
digit_kept (suc (suc (suc zero))) low = refl
digit_kept (suc (suc (suc (suc zero)))) low = refl
digit_kept (suc (suc (suc (suc (suc zero))))) low = refl
digit_kept (suc (suc (suc (suc (suc (suc zero)))))) low = refl
digit_kept (suc (suc (suc (suc (suc (suc (suc zero))))))) low = refl
digit_kept (suc (suc (suc (suc (suc (suc (suc (suc zero)))))))) low = refl
digit_kept (suc (suc (suc (suc (suc (suc (suc (suc (suc zero))))))))) low = refl
digit_kept (suc (suc (suc (suc (suc (suc (suc (suc (suc (suc zero)))))))))) low = refl
digit_kept (suc (suc (suc (suc (suc (suc (suc (suc (suc (suc (suc zero))))))))))) low = refl
digit_kept (suc (suc (suc (suc (suc (suc (suc (suc (suc (suc (suc (suc zero)))))))))))) low = refl
digit_kept (suc (suc (suc (suc (suc (suc (suc (suc (suc (suc (suc (suc (suc zero))))))))))))) low = refl
digit_kept (suc (suc (suc (suc (suc (suc (suc (suc (suc (suc (suc (suc (suc (suc zero)))))))))))))) low = refl
digit_kept (suc (suc (suc (suc (suc (suc (suc (suc (suc (suc (suc (suc (suc (suc (suc zero))))))))))))))) low = refl
digit_kept (suc (suc (suc (suc (suc (suc (suc (suc (suc (suc (suc (suc (suc (suc (suc (suc n)))))))))))))))) low = absurd (omega arith)

-- a plain byte can
plain_kept : (b : ℕ) → is_plain b ≡ true → is_kept_in b ≡ true
plain_kept b plain = grind arith

-- bytes in front of others
kept_append : (xs ys : List ℕ) → AllByRecursion (λ b. is_kept_in b ≡ true) xs → AllByRecursion (λ b. is_kept_in b ≡ true) ys → AllByRecursion (λ b. is_kept_in b ≡ true) (xs ++ ys)
kept_append [] ys all more = more
kept_append (x ∷ xs) ys all more = (all.0, kept_append xs ys all.1 more)

byte_kept : (b : ℕ) → AllByRecursion (λ b. is_kept_in b ≡ true) (escaped_byte b)
byte_kept b =
    (elim (is_plain b) as (λ v. is_plain b ≡ v → AllByRecursion (λ b. is_kept_in b ≡ true) (if v then b ∷ [] else 92 ∷ 120 ∷ digit_char (b / 16 % 16) ∷ digit_char (b % 16) ∷ [])) [
      | true ↦ λ e. (plain_kept b e, tt)
      | false ↦ λ e. (refl, (refl, (digit_kept (b / 16 % 16) (omega arith), (digit_kept (b % 16) (omega arith), tt))))
    ]) refl

pub escaped_kept : (bytes : List ℕ) → AllByRecursion (λ b. is_kept_in b ≡ true) (escaped bytes)
escaped_kept [] = tt
escaped_kept (b ∷ bytes) = kept_append (escaped_byte b) (escaped bytes) (byte_kept b) (escaped_kept bytes)
