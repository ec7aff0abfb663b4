use Rattle.std.proofs.Common.{ℕ, zero, suc, ◌≡◌, ◌≤◌, ◌-◌, ◌==◌, true, false, if◌then◌else◌, List, [], ◌∷◌, length, drop, refl, arith}
use Rattle.av_log.specs.Queue.{behind_line}

-- what follows the first line is no longer than all
pub behind_line_ends : (bytes : List ℕ) → length (behind_line bytes) ≤ length bytes
behind_line_ends [] = omega arith
behind_line_ends (b ∷ bytes) =
    elim (b == 10) as (λ v. length (if v then bytes else behind_line bytes) ≤ suc (length bytes)) [
      | true ↦ omega arith
      | false ↦ let lower = behind_line_ends bytes in omega arith
    ]

-- it is the end of all
pub behind_line_is_end : (bytes : List ℕ) → drop (length bytes - length (behind_line bytes)) bytes ≡ behind_line bytes
behind_line_is_end [] = refl
behind_line_is_end (b ∷ bytes) =
    elim (b == 10) as (λ v. drop (suc (length bytes) - length (if v then bytes else behind_line bytes)) (b ∷ bytes) ≡ (if v then bytes else behind_line bytes)) [
      | true ↦ let one : suc (length bytes) - length bytes ≡ suc zero = omega arith in rw one refl
      | false ↦
          let fits = behind_line_ends bytes in
          let more : suc (length bytes) - length (behind_line bytes) ≡ suc (length bytes - length (behind_line bytes)) = omega arith in
          rw more (behind_line_is_end bytes)
    ]
