-- How many questions run, and that there is room for one more.
use Rattle.std.proofs.Common.{◌≡◌, ℕ, suc, ◌+◌, ◌<◌, ◌≤◌, List, [], ◌∷◌, ◌++◌, length, length-append, Some, None, sym, ap, subst, ◌∙◌, inl, inr, arith}
use Rattle.std.proofs.lemmas.Bool.{cases_eq}
use Rattle.std.proofs.lemmas.List.{length-map}
use Rattle.av_base.specs.Limits.{AreInRange}
use Rattle.av_base.specs.declared.limits.LimitValues.{LimitValues}
use Rattle.av_context.specs.Contexts.{at, without, PutsAt}
use Rattle.av_filter_table.specs.Chains.{Questions, essence, essences}
use Rattle.av_filter_table.specs.FilterTable.{asked_of, questions_of}
use Rattle.av_filter_table.specs.declared.asked.Asked.{Asked}
use Rattle.av_numbered.specs.declared.bounded.TheConstants.{MOST_ROWS}
use Rattle.av_numbered.proofs.BoundedLemmas.{pair}
use Rattle.av_numbered.proofs.MapLemmas.{none_some, at-apart, without-here, without-apart}

-- questions of the same contents are as many
same-count : (q q' : Questions) → essences q' ≡ essences q → length q' ≡ length q
same-count q q' same = sym (length-map q' (λ e. pair e.0 (essence e.1))) ∙ (ap length same ∙ length-map q (λ e. pair e.0 (essence e.1)))

pub still-few : (q q' : Questions) (most : ℕ) → essences q' ≡ essences q → length q ≤ most → length q' ≤ most
still-few q q' most same few = subst (λ n. n ≤ most) (sym (same-count q q' same)) few

-- one is gone
pub length-without : {X : Type 0} (m : List (ℕ × X)) (n : ℕ) (x : X) → at m n ≡ Some x → length (without m n) + 1 ≡ length m
length-without [] n x found = none_some found
length-without (p ∷ m) n x found = elim (cases_eq n p.0) [
  | inl same ↦ let gone : length (without (p ∷ m) n) ≡ length m = ap length (without-here m p.0 n p.1 same) in omega arith
  | inr apart ↦
      let left : length (without (p ∷ m) n) ≡ suc (length (without m n)) = ap length (without-apart m p.0 n p.1 apart) in
      let rest = length-without m n x (sym (at-apart m p.0 n p.1 apart) ∙ found) in
      omega arith
]

one-less : (q q' : Questions) (n : ℕ) (x : Asked × ℕ) → at q n ≡ Some x → PutsAt q q' n None → length q' + 1 ≡ length q
one-less q q' n x found puts = ap (λ m. length m + 1) puts.whole ∙ length-without q n x found

pub fewer-left : (q q' : Questions) (n most : ℕ) (x : Asked × ℕ) → at q n ≡ Some x → PutsAt q q' n None → length q ≤ most → length q' ≤ most
fewer-left q q' n most x found puts few = let less = one-less q q' n x found puts in omega arith

-- one has come
one-more : (q q' : Questions) (e : ℕ × (Asked × ℕ)) → q' ≡ q ++ e ∷ [] → length q' ≡ length q + 1
one-more q q' e is = ap length is ∙ length-append q (e ∷ [])

count-questions : (boot : ℕ) (q : Questions) → length (questions_of boot q) ≡ length q
count-questions boot q = length-map (essences q) (asked_of boot) ∙ length-map q (λ e. pair e.0 (essence e.1))

pub still-allowed : (boot most : ℕ) (q q' : Questions) (e : ℕ × (Asked × ℕ)) → length (questions_of boot q) < most → q' ≡ q ++ e ∷ [] → length q' ≤ most
still-allowed boot most q q' e room is =
    let more = one-more q q' e is in
    let count = count-questions boot q in
    omega arith

-- a question that is asked again stands beside the one that ends
pub as-many : (q q1 q2 q' : Questions) (e : ℕ × (Asked × ℕ)) (n most : ℕ) (x : Asked × ℕ) → q1 ≡ q ++ e ∷ [] → essences q2 ≡ essences q1 → at q2 n ≡ Some x → PutsAt q2 q' n None → length q ≤ most → length q' ≤ most
as-many q q1 q2 q' e n most x is same found puts few =
    let more = one-more q q1 e is in
    let kept = same-count q1 q2 same in
    let less = one-less q2 q' n x found puts in
    omega arith

most-allowed : (v : LimitValues) → AreInRange v → v.questions ≤ 1024
most-allowed v allowed = allowed.1.1.1.0.1

pub room-beside : (v : LimitValues) (q : Questions) → AreInRange v → length q ≤ v.questions → length q < MOST_ROWS
room-beside v q allowed few = let most = most-allowed v allowed in omega arith

pub room-for_one : (v : LimitValues) (boot : ℕ) (q : Questions) → AreInRange v → length (questions_of boot q) < v.questions → length q < MOST_ROWS
room-for_one v boot q allowed room =
    let count = count-questions boot q in
    room-beside v q allowed (omega arith)
