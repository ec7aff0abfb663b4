use Rattle.std.proofs.Common.{ℕ, ◌≡◌, ◌+◌, List, [], ◌∷◌, ◌++◌, length, refl, ap, ◌∙◌, arith, Ok, Err}
use Rattle.av_sigset.specs.Set.{NumberedSet}
use Rattle.av_merge.specs.Merge.{Merged, MergesOn, and_then, merged_from, merged_with}

last_of : (m : Merged) (i : ℕ) (s : NumberedSet) → merged_from m i (s ∷ []) ≡ merged_with m i s
unfolding merged_from
last_of m i s = elim (merged_with m i s) as (λ r. and_then r (λ n. merged_from n (i + 1) []) ≡ r) [ Ok n ↦ refl | Err f ↦ refl ]

-- one set more
merged_more : (sets : List NumberedSet) (m n k : Merged) (i j : ℕ) (s : NumberedSet) → j ≡ i + length sets → merged_from m i sets ≡ Ok n → merged_with n j s ≡ Ok k → merged_from m i (sets ++ s ∷ []) ≡ Ok k
unfolding merged_from
merged_more [] m n k i j s at is more =
    let same : m ≡ n = cc is in
    let number : i ≡ j = omega (arith, at) in
    last_of m i s ∙ ap (λ t. merged_with t i s) same ∙ ap (λ l. merged_with n l s) number ∙ more
merged_more (t ∷ sets) m n k i j s at is more =
    let next : j ≡ (i + 1) + length sets = omega (arith, at) in
    (elim (merged_with m i t) as (λ r. and_then r (λ u. merged_from u (i + 1) sets) ≡ Ok n → and_then r (λ u. merged_from u (i + 1) (sets ++ s ∷ [])) ≡ Ok k) [
      | Ok u ↦ λ e. merged_more sets u n k (i + 1) j s next e more
      | Err f ↦ λ e. absurd (cc e)
    ]) is

-- a set more of the number that is next
pub merges_on : (old new : Merged) (number : ℕ) (set : NumberedSet) → merged_with old number set ≡ Ok new → MergesOn old new number set
merges_on old new number set is = λ sets long all. merged_more sets _ old new 0 number set (omega (arith, long)) all is
