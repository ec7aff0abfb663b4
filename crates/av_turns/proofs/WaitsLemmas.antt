-- Which number is waited for longest.
use Rattle.std.proofs.Common.{arith, ap, ◌∙◌, refl, subst, sym, ◌≤◌, ◌<◌, ◌+◌, List, ◌≡◌, ℕ, Bool, true, false, nat_eq, nat_lt, min, Option, None, Some}
use Rattle.std.proofs.lemmas.Bool.Decides.{nat_tests}
use Rattle.av_turns.specs.Times.{has, IsEmpty, IsNoneEarlier, is_time}
use Rattle.av_turns.specs.Waits.{AreTimed, IsLongest, since_of, until}

-- a number that has a time is waited for since then
pub since_is : (o : Option ℕ) (t : ℕ) → is_time o t ≡ true → o ≡ Some t
since_is None t e = grind (arith, e)
since_is (Some a) t e = grind (arith, nat_tests, e)

same_time : (s : ℕ) → nat_eq s s ≡ true
same_time s = grind (arith, nat_tests)

pub has_since : (waits times : List (ℕ × ℕ)) (q s : ℕ) → AreTimed waits times → since_of waits q ≡ Some s → has s q times ≡ true
has_since waits times q s timed e = timed q s ∙ ap (λ o. is_time o s) e ∙ same_time s

-- the first of the times is that of the longest wait
pub longest : (waits times : List (ℕ × ℕ)) (first : ℕ) → AreTimed waits times → IsNoneEarlier times first → IsLongest waits first
longest waits times first timed least = λ q s e. least q s (has_since waits times q s timed e)

pub first_since : (waits times : List (ℕ × ℕ)) (n first : ℕ) → AreTimed waits times → has first n times ≡ true → since_of waits n ≡ Some first
first_since waits times n first timed here = since_is (since_of waits n) first (sym (timed n first) ∙ here)

pub none_late : (waits times : List (ℕ × ℕ)) (q s wait now : ℕ) → AreTimed waits times → IsEmpty times → since_of waits q ≡ Some s → now < until s wait
none_late waits times q s wait now timed empty e = grind (arith, has_since waits times q s timed e, empty q s)

none_of : (o : Option ℕ) → ((t : ℕ) → is_time o t ≡ false) → o ≡ None
none_of None h = refl
none_of (Some s) h = grind (arith, nat_tests, h s, same_time s)

pub nothing_waits : (waits times : List (ℕ × ℕ)) (q : ℕ) → AreTimed waits times → IsEmpty times → since_of waits q ≡ None
nothing_waits waits times q timed empty = none_of (since_of waits q) (λ t. sym (timed q t) ∙ empty q t)

-- where the longest wait is not over no other is
pub not_over : (first s wait now : ℕ) → first ≤ s → now < until first wait → now < until s wait
not_over first s wait now least early = omega (arith, least, early)
