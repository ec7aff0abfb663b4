-- Entries of times.
use Rattle.std.proofs.Common.{arith, ap, ◌∙◌, refl, ◌≤◌, List, ◌≡◌, ℕ, Bool, true, false, not, cond, ◌&&◌, ◌||◌, nat_eq, nat_le, min, Option, None, Some, IfSome, inl, inr, ◌⊎◌, sym, subst}
use Rattle.std.specs.Ordering.{is_eq, is_gt}
use Rattle.std.specs.Option.{option_eq}
use Rattle.std.proofs.lemmas.Bool.Decides.{nat_tests}
use Rattle.av_turns.specs.Times.{by_time, Changes, earlier, has, is_time}

-- an entry is found by its time and its number
pub same_entry : (t n d q : ℕ) → is_eq (by_time (t, n) (d, q)) ≡ (nat_eq q n && nat_eq t d)
same_entry t n d q = grind (arith, nat_tests)

pub forgets : (h new e a : Bool) → new ≡ cond e false h → e ≡ a → new ≡ (h && not a)
forgets h new e a is same = grind (arith)

pub adds : (h new e a : Bool) → new ≡ cond e true h → e ≡ a → new ≡ (a || h)
adds h new e a is same = grind (arith)

pub changes : (a b h added new : Bool) → added ≡ (a || h) → new ≡ (added && not b) → (a ≡ true → b ≡ false) → new ≡ (a || (h && not b))
changes true b h added new e1 e2 apart = grind (arith, apart)
changes false b h added new e1 e2 apart = grind (arith)

pub stays : (a h added : Bool) → added ≡ (a || h) → added ≡ (a || (h && not a))
stays true h added e = grind (arith)
stays false h added e = grind (arith)

-- two times that differ are not both this one
pub apart : (x : Bool) (was is : Option ℕ) (d : ℕ) → option_eq nat_eq was is ≡ false → (x && is_time is d) ≡ true → (x && is_time was d) ≡ false
apart x None is d differ here = grind (arith)
apart x (Some a) None d differ here = grind (arith)
apart x (Some a) (Some b) d differ here = grind (arith, nat_tests)

pub same : (was is : Option ℕ) → option_eq nat_eq was is ≡ true → was ≡ is
same None None e = grind (arith)
same None (Some b) e = grind (arith, e)
same (Some a) None e = grind (arith, e)
same (Some a) (Some b) e = grind (arith, nat_tests, e)

pub changes_at : (old new : List (ℕ × ℕ)) (number : ℕ) (a b c d : Option ℕ) → a ≡ c → b ≡ d → Changes old new number a b → Changes old new number c d
changes_at old new number a b c d e f h = λ q time. h q time ∙ ap (λ o. (nat_eq q number && is_time b time) || (has time q old && not (nat_eq q number && is_time o time))) e
    ∙ ap (λ o. (nat_eq q number && is_time o time) || (has time q old && not (nat_eq q number && is_time c time))) f

-- an entry that is not behind another has no later time
pub not_later : (t n d q : ℕ) → is_gt (by_time (t, n) (d, q)) ≡ false → t ≤ d
not_later t n d q h = grind (arith, nat_tests, h)

one_by : (b : Bool) (m n : ℕ) → nat_le m n ≡ b → (min m n ≡ m) ⊎ (min m n ≡ n)
one_by true m n e = inl (grind (arith, e))
one_by false m n e = inr (grind (arith, e))

-- the earlier of two times is one of them
pub earlier_is : (P : ℕ → Type 0) (a b : Option ℕ) → IfSome a P → IfSome b P → IfSome (earlier a b) P
earlier_is P None other one both = both
earlier_is P (Some a) None one both = one
earlier_is P (Some a) (Some b) one both =
    elim (one_by (nat_le a b) a b refl) [
      | inl e ↦ subst P (sym e) one
      | inr e ↦ subst P (sym e) both
    ]
