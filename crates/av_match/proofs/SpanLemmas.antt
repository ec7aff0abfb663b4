-- Patterns that are bound to spans: where none is, and where no match can end any more.
use Rattle.std.proofs.Common.{ℕ, ◌≡◌, ◌≤◌, ◌+◌, ◌-◌, ◌&&◌, Bool, true, false, List, [], ◌∷◌, length, nat_le, nat_lt, None, Some, refl, sym, ◌∙◌, ap, ap₂, arith, if◌then◌else◌}
use Rattle.std.proofs.lemmas.Bool.{and_parts, and_from, and_right, or_parts}
use Rattle.std.proofs.lemmas.Bool.Decides.{nat_tests}
use Rattle.av_sigset.specs.declared.signature.Pattern.{Pattern}
use Rattle.av_sigset.specs.declared.signature.Span.{Span}
use Rattle.av_match.specs.Match.{begins_in}
use Rattle.av_match.specs.Scanning.{are_bound, ends_before, is_bound, is_past}
use Rattle.av_match.specs.Search.{bytes_of, find_at, index_at, occurs_at}

pub and_true : (b : Bool) → (b && true) ≡ b
and_true true = refl
and_true false = refl

-- ---- without bounds every match begins in its span

begins_free : (s : Span) (start : ℕ) → is_bound s ≡ false → begins_in s start ≡ true
begins_free s start free =
    let parts = or_parts (nat_lt 0 s.low) (nat_lt s.high 1048575) free in
    let zero_low : nat_lt 0 s.low ≡ false = parts.0 in
    let far : nat_lt s.high 1048575 ≡ false = parts.1 in
    let low : nat_le s.low start ≡ true = grind (arith, nat_tests) in
    let high : nat_le 1048575 s.high ≡ true = grind (arith, nat_tests) in
    rw (low, high) refl

-- so the first pattern that ends at a place is found there
pub find_free : (i : ℕ) (ps : List Pattern) (c : List ℕ) (n e : ℕ) → are_bound ps ≡ false → find_at i ps c n e ≡ index_at i (bytes_of ps) c n
find_free i [] c n e free = refl
find_free i (p ∷ ps) c n e free =
    let parts = or_parts (is_bound p.span) (are_bound ps) free in
    let test : (occurs_at p.bytes c n && begins_in p.span (e - length p.bytes)) ≡ occurs_at p.bytes c n =
    ap (λ b. occurs_at p.bytes c n && b) (begins_free p.span (e - length p.bytes) parts.0) ∙ and_true (occurs_at p.bytes c n) in
    ap₂ (λ a b. if a then Some i else b) test (find_free (i + 1) ps c n e parts.1)

-- ---- past the last match

ends_later : (p : Pattern) (e f : ℕ) → e ≤ f → ends_before e p ≡ true → ends_before f p ≡ true
ends_later p e f up h =
    let parts = and_parts (nat_lt p.span.high 1048575) (nat_lt (p.span.high + length p.bytes) e) h in
    let before : nat_lt (p.span.high + length p.bytes) e ≡ true = parts.1 in
    and_from (nat_lt p.span.high 1048575) (nat_lt (p.span.high + length p.bytes) f) parts.0 (grind (arith, nat_tests))

pub past_later : (ps : List Pattern) (e f : ℕ) → e ≤ f → is_past ps e ≡ true → is_past ps f ≡ true
unfolding is_past
past_later [] e f up h = refl
past_later (p ∷ ps) e f up h =
    let parts = and_parts (ends_before e p) (is_past ps e) h in
    and_from (ends_before f p) (is_past ps f) (ends_later p e f up parts.0) (past_later ps e f up parts.1)

pub open_before : (ps : List Pattern) (e f : ℕ) → e ≤ f → is_past ps f ≡ false → is_past ps e ≡ false
open_before ps e f up early =
    (elim (is_past ps e) as (λ b. is_past ps e ≡ b → b ≡ false) [
      | true ↦ λ h. sym (past_later ps e f up h) ∙ early
      | false ↦ λ h. refl
    ]) refl

begins_past : (p : Pattern) (e : ℕ) → ends_before e p ≡ true → begins_in p.span (e - length p.bytes) ≡ false
begins_past p e h =
    let parts = and_parts (nat_lt p.span.high 1048575) (nat_lt (p.span.high + length p.bytes) e) h in
    let bounded : nat_lt p.span.high 1048575 ≡ true = parts.0 in
    let before : nat_lt (p.span.high + length p.bytes) e ≡ true = parts.1 in
    let near : nat_le 1048575 p.span.high ≡ false = grind (arith, nat_tests) in
    let late : nat_le (e - length p.bytes) p.span.high ≡ false = grind (arith, nat_tests) in
    rw (near, late) (and_right (nat_le p.span.low (e - length p.bytes)) false refl)

pub past_none : (i : ℕ) (ps : List Pattern) (c : List ℕ) (n e : ℕ) → is_past ps e ≡ true → find_at i ps c n e ≡ None
unfolding is_past
past_none i [] c n e h = refl
past_none i (p ∷ ps) c n e h =
    let parts = and_parts (ends_before e p) (is_past ps e) h in
    let test : (occurs_at p.bytes c n && begins_in p.span (e - length p.bytes)) ≡ false =
    ap (λ b. occurs_at p.bytes c n && b) (begins_past p e parts.0) ∙ and_right (occurs_at p.bytes c n) false refl in
    ap (λ a. if a then Some i else find_at (i + 1) ps c n e) test ∙ past_none (i + 1) ps c n e parts.1
