-- An answer that is found at one place of a legal audit is its open's one answer.
use Rattle.std.proofs.Common.{◌≡◌, ℕ, ◌+◌, ◌≤◌, ◌==◌, ◌++◌, ◌∷◌, [], Bool, true, false, cond, zero, suc, List, Some, filter, length, map, if◌then◌else◌, refl, subst, sym, slice_get, arith}
use Rattle.std.proofs.lemmas.Bool.Decides.{nat_tests}
use Rattle.av_base.specs.declared.limits.LimitValues.{LimitValues}
use Rattle.av_base.specs.declared.mode.Mode.{Mode}
use Rattle.av_ends.specs.declared.ticket.Receipt.{Receipt}
use Rattle.av_filter.specs.Audit.{FilterEntry, IsFilterAudit, answers_given, opens_taken}
use Rattle.av_filter.specs.Once.{AuditsAnswerOnce, once_between, times}
use Rattle.av_filter_table.specs.Table.{mounted}
use Rattle.av_gate.specs.Claims.{Stands, answers_to}
use Rattle.av_pend.specs.Pend.{open_of}
use Rattle.av_pend.specs.declared.answer.Answer.{Answer}
use Rattle.av_store.specs.Store.{Store}

left : (xs ys : List Answer) (i : ℕ) (a : Answer) → slice_get xs i ≡ Some a → slice_get (xs ++ ys) i ≡ Some a
left [] ys i a h = absurd cc
left (x ∷ xs) ys zero a h = h
left (x ∷ xs) ys (suc i) a h = left xs ys i a h

right : (xs ys : List Answer) (i : ℕ) (a : Answer) → slice_get ys i ≡ Some a → (k : ℕ) × (slice_get (xs ++ ys) k ≡ Some a)
right [] ys i a h = (i, h)
right (x ∷ xs) ys i a h = let r = right xs ys i a h in (suc r.0, r.1)

-- an answer of an event is one of the audit's
given_at : (es : List FilterEntry) (i : ℕ) (x : FilterEntry) (j : ℕ) (a : Answer) → slice_get es i ≡ Some x → slice_get x.answers j ≡ Some a → (k : ℕ) × (slice_get (answers_given es) k ≡ Some a)
given_at [] i x j a at h = absurd cc
given_at (y ∷ es) zero x j a at h =
    let same : y ≡ x = cc at in
    (j, left y.answers (answers_given es) j a (subst (λ (z : FilterEntry). slice_get z.answers j ≡ Some a) (sym same) h))
given_at (y ∷ es) (suc i) x j a at h = let r = given_at es i x j a at h in right y.answers (answers_given es) r.0 a r.1

-- what passes is among those that pass, and is all of them where there is one at most
passes_there : (p : Answer → Bool) (xs : List Answer) (i : ℕ) (a : Answer) → slice_get xs i ≡ Some a → p a ≡ true → 1 ≤ length (filter p xs)
passes_there p [] i a at passing = absurd cc
passes_there p (x ∷ xs) zero a at passing =
    let same : x ≡ a = cc at in
    let go : (b : Bool) → p x ≡ b → 1 ≤ length (cond b (x ∷ filter p xs) (filter p xs)) = elim [ true ↦ λ e. omega arith | false ↦ λ e. let no : p a ≡ false = subst (λ z. p z ≡ false) same e in absurd (cc (passing, no)) ] in
    go (p x) refl
passes_there p (x ∷ xs) (suc i) a at passing =
    elim (p x) as (λ b. 1 ≤ length (cond b (x ∷ filter p xs) (filter p xs))) [ true ↦ omega arith | false ↦ passes_there p xs i a at passing ]

none_left : (xs : List Answer) → length xs ≤ 0 → xs ≡ []
none_left [] h = refl
none_left (x ∷ xs) h = absurd (omega arith)

passes_alone : (p : Answer → Bool) (xs : List Answer) (i : ℕ) (a : Answer) → slice_get xs i ≡ Some a → p a ≡ true → length (filter p xs) ≤ 1 → filter p xs ≡ a ∷ []
passes_alone p [] i a at passing one = absurd cc
passes_alone p (x ∷ xs) zero a at passing one =
    let same : x ≡ a = cc at in
    let go : (b : Bool) → p x ≡ b → length (cond b (x ∷ filter p xs) (filter p xs)) ≤ 1 → cond b (x ∷ filter p xs) (filter p xs) ≡ a ∷ [] = elim [
      | true ↦ λ e le. let rest : filter p xs ≡ [] = none_left (filter p xs) (omega arith) in cc (same, rest)
      | false ↦ λ e le. let no : p a ≡ false = subst (λ z. p z ≡ false) same e in absurd (cc (passing, no))
    ] in
    go (p x) refl one
passes_alone p (x ∷ xs) (suc i) a at passing one =
    let there : 1 ≤ length (filter p xs) = passes_there p xs i a at passing in
    let go : (b : Bool) → length (cond b (x ∷ filter p xs) (filter p xs)) ≤ 1 → cond b (x ∷ filter p xs) (filter p xs) ≡ a ∷ [] = elim [
      | true ↦ λ le. absurd (omega (arith, there))
      | false ↦ λ le. passes_alone p xs i a at passing le
    ] in
    go (p x) one

-- as many answers are to an open as its number is said
counted : (n : ℕ) (xs : List Answer) → length (filter (λ a. open_of a == n) xs) ≡ times n (map open_of xs)
counted n [] = refl
counted n (x ∷ xs) =
    let p = λ (a : Answer). open_of a == n in
    elim (open_of x == n) as (λ b. length (cond b (x ∷ filter p xs) (filter p xs)) ≡ (if b then 1 else 0) + times n (map open_of xs)) [ true ↦ omega (arith, counted n xs) | false ↦ omega (arith, counted n xs) ]

once : (low high n : ℕ) → once_between low high n ≤ 1
once low high n = grind (arith, nat_tests)

pub found : (law : AuditsAnswerOnce) (v : Store) (mode : Mode) (limits : LimitValues) (es : List FilterEntry) → IsFilterAudit (mounted mode limits v.boot) v es → (r : Receipt) (i : ℕ) (x : FilterEntry) (j : ℕ) (a : Answer) → slice_get es i ≡ Some x
    → slice_get x.answers j ≡ Some a → open_of a ≡ r.open_id → a ≡ r.answer → Stands es r
found law v mode limits es legal r i x j a at here is same =
    let n = r.open_id in
    let k = given_at es i x j a at here in
    let passing : (open_of a == n) ≡ true = grind (arith, nat_tests, is) in
    let most : length (answers_to n es) ≤ 1 = omega (arith, counted n (answers_given es), law v mode limits es legal n, once v.opens (v.opens + opens_taken es) n) in
    subst (λ (z : Answer). answers_to n es ≡ z ∷ []) same (passes_alone (λ b. open_of b == n) (answers_given es) k.0 a k.1 passing most)
