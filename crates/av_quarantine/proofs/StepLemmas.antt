-- Which outcomes lead to a step, and which names they leave.
use Rattle.std.proofs.Common.{ℕ, suc, ◌≡◌, ◌+◌, ◌-◌, ◌<◌, ◌≤◌, ◌++◌, true, false, nat_lt, List, [], ◌∷◌, Option, None, if◌then◌else◌, refl, sym, ap, subst, ◌∙◌, arith, ltb-true}
use Rattle.std.proofs.Math.ListN.{replicate}
use Rattle.std.specs.Prelude.{⊤}
use Rattle.av_quarantine.specs.declared.steps.TheConstants.{LAST}
use Rattle.av_quarantine.specs.declared.steps.MoveFault.TheVariants as fault
use Rattle.av_quarantine.specs.declared.steps.Outcome.{Outcome}
use Rattle.av_quarantine.specs.declared.steps.Outcome.TheVariants.{Done, Taken, Elsewhere, Failed}
use Rattle.av_quarantine.specs.declared.steps.Step.{Step}
use Rattle.av_quarantine.specs.declared.steps.Step.TheVariants.{Link, Compare, Remove, Undo, Moved, Stopped}
use Rattle.av_quarantine.specs.Laws.{KeepsNames, MovesOnlyJudged, Names, RemovesOnlyJudged, changed, left_by, names_at, names_from}
use Rattle.av_quarantine.specs.Steps.{next, run_from}

-- ---- one more outcome

run_more : (s : Step) (os : List Outcome) (o : Outcome) → run_from s (os ++ o ∷ []) ≡ next (run_from s os) o
unfolding run_from
run_more s [] o = refl
run_more s (p ∷ os) o = run_more (next s p) os o

-- outcomes lead from one step to another
abbrev pub Leads : Step → Step → Type 0
Leads s t = (os : List Outcome) × (run_from s os ≡ t)

pub leads_nowhere : (s : Step) → Leads s s
unfolding run_from
leads_nowhere s = ([], refl)

pub leads_on : (s t u : Step) (o : Outcome) → Leads s t → u ≡ next t o → Leads s u
leads_on s t u o l is = (l.0 ++ o ∷ [], run_more s l.0 o ∙ ap (λ v. next v o) l.1 ∙ sym is)

-- ---- how far a step is from the end

-- so many steps are left at most
abbrev pub left : Step → ℕ
left (Link n) = 4 + (LAST - n)
left (Compare n) = 3
left (Remove n) = 2
left (Undo n f) = 1
left (Moved n) = 0
left (Stopped f) = 0

-- ---- which outcomes lead to a step

-- the new name is removed again, or was, or was never made
abbrev IsBack : Step → Type 0
IsBack (Link n) = ⊥
IsBack (Compare n) = ⊥
IsBack (Remove n) = ⊥
IsBack (Undo n f) = ⊤
IsBack (Moved n) = ⊥
IsBack (Stopped f) = ⊤

back_next : (s : Step) (o : Outcome) → IsBack s → IsBack (next s o)
back_next (Link n) o b = absurd b
back_next (Compare n) o b = absurd b
back_next (Remove n) o b = absurd b
back_next (Undo n f) Done b = tt
back_next (Undo n f) Taken b = tt
back_next (Undo n f) Elsewhere b = tt
back_next (Undo n f) Failed b = tt
back_next (Moved n) o b = absurd b
back_next (Stopped f) o b = tt

back_run : (s : Step) (os : List Outcome) → IsBack s → IsBack (run_from s os)
unfolding run_from
back_run s [] b = b
back_run s (o ∷ os) b = back_run (next s o) os (back_next s o b)

moved_run : (n : ℕ) (os : List Outcome) → run_from (Moved n) os ≡ Moved n
unfolding run_from
moved_run n [] = refl
moved_run n (o ∷ os) = moved_run n os

-- outcomes that lead from a name to its removal, and on to the end
remove_remove : (k n : ℕ) (os : List Outcome) → run_from (Remove k) os ≡ Remove n → (k ≡ n) × (os ≡ [])
unfolding run_from
remove_remove k n [] is = (cc is, refl)
remove_remove k n (Done ∷ os) is = absurd (cc (sym (moved_run k os) ∙ is))
remove_remove k n (Taken ∷ os) is = absurd (subst IsBack is (back_run (Undo k fault.Kept) os tt))
remove_remove k n (Elsewhere ∷ os) is = absurd (subst IsBack is (back_run (Undo k fault.Kept) os tt))
remove_remove k n (Failed ∷ os) is = absurd (subst IsBack is (back_run (Undo k fault.Kept) os tt))

remove_moved : (k n : ℕ) (os : List Outcome) → run_from (Remove k) os ≡ Moved n → (k ≡ n) × ((more : List Outcome) × (os ≡ Done ∷ more))
unfolding run_from
remove_moved k n [] is = absurd (cc is)
remove_moved k n (Done ∷ os) is = (cc (sym (moved_run k os) ∙ is), (os, refl))
remove_moved k n (Taken ∷ os) is = absurd (subst IsBack is (back_run (Undo k fault.Kept) os tt))
remove_moved k n (Elsewhere ∷ os) is = absurd (subst IsBack is (back_run (Undo k fault.Kept) os tt))
remove_moved k n (Failed ∷ os) is = absurd (subst IsBack is (back_run (Undo k fault.Kept) os tt))

-- a step that is neither a new name, nor a comparison, nor back
abbrev IsLate : Step → Type 0
IsLate (Link n) = ⊥
IsLate (Compare n) = ⊥
IsLate (Remove n) = ⊤
IsLate (Undo n f) = ⊥
IsLate (Moved n) = ⊤
IsLate (Stopped f) = ⊥

not_back : (s : Step) → IsBack s → IsLate s → ⊥
not_back (Link n) b l = l
not_back (Compare n) b l = l
not_back (Remove n) b l = b
not_back (Undo n f) b l = l
not_back (Moved n) b l = b
not_back (Stopped f) b l = l

compare_late : (k : ℕ) (os : List Outcome) → IsLate (run_from (Compare k) os) → (more : List Outcome) × (os ≡ Done ∷ more) × (run_from (Compare k) os ≡ run_from (Remove k) more)
unfolding run_from
compare_late k [] late = absurd late
compare_late k (Done ∷ os) late = (os, refl, refl)
compare_late k (Taken ∷ os) late = absurd (not_back _ (back_run (Undo k fault.Another) os tt) late)
compare_late k (Elsewhere ∷ os) late = absurd (not_back _ (back_run (Undo k fault.Another) os tt) late)
compare_late k (Failed ∷ os) late = absurd (not_back _ (back_run (Undo k fault.Another) os tt) late)

-- from the name of number k on, j names were taken, and the next was made and is that of the file
abbrev TakesFrom : ℕ → List Outcome → Type 0
TakesFrom k os =
    (j : ℕ) × (more : List Outcome) × (k + j ≤ LAST) × (os ≡ replicate j Taken ++ Done ∷ Done ∷ more) × (run_from (Link k) os ≡ run_from (Remove (k + j)) more)

link_late : (k : ℕ) (os : List Outcome) → k ≤ LAST → IsLate (run_from (Link k) os) → TakesFrom k os
unfolding run_from
link_late k [] low late = absurd late
link_late k (Done ∷ os) low late =
    let next = compare_late k os late in (0, next.0, omega (arith, low), ap (λ xs. Done ∷ xs) next.1, next.2 ∙ ap (λ n. run_from (Remove n) next.0) (omega arith))
link_late k (Taken ∷ os) low late =
    (elim (nat_lt k LAST) as (λ b. nat_lt k LAST ≡ b → IsLate (run_from (if b then Link (k + 1) else Stopped fault.Full) os)
    → (j : ℕ) × (more : List Outcome) × (k + j ≤ LAST) × (Taken ∷ os ≡ replicate j Taken ++ Done ∷ Done ∷ more) × (run_from (if b then Link (k + 1) else Stopped fault.Full) os ≡ run_from (Remove (k + j)) more)) [
      | true ↦ λ lt l.
          let below : k < LAST = ltb-true k LAST lt in
          let rest = link_late (k + 1) os (omega arith) l in (
            suc rest.0,
            rest.1,
            omega (arith, rest.2),
            ap (λ xs. Taken ∷ xs) rest.3,
            rest.4 ∙ ap (λ n. run_from (Remove n) rest.1) (omega arith),
          )
      | false ↦ λ _ l. absurd (not_back _ (back_run (Stopped fault.Full) os tt) l)
    ]) refl late
link_late k (Elsewhere ∷ os) low late = absurd (not_back _ (back_run (Stopped fault.Elsewhere) os tt) late)
link_late k (Failed ∷ os) low late = absurd (not_back _ (back_run (Stopped fault.Unlinked) os tt) late)

pub removes_judged : RemovesOnlyJudged
removes_judged = λ os n is.
    let from = link_late 0 os (omega arith) (subst IsLate (sym is) tt) in
    let last = remove_remove (0 + from.0) n from.1 (sym from.4 ∙ is) in
    let count : from.0 ≡ n = omega (arith, last.0) in (
      omega (arith, from.2, count),
      from.3 ∙ ap (λ xs. replicate from.0 Taken ++ Done ∷ Done ∷ xs) last.1 ∙ ap (λ j. replicate j Taken ++ Done ∷ Done ∷ []) count,
    )

pub moves_judged : MovesOnlyJudged
moves_judged = λ os n is.
    let from = link_late 0 os (omega arith) (subst IsLate (sym is) tt) in
    let last = remove_moved (0 + from.0) n from.1 (sym from.4 ∙ is) in
    let count : from.0 ≡ n = omega (arith, last.0) in (
      omega (arith, from.2, count),
      (last.1.0, from.3 ∙ ap (λ xs. replicate from.0 Taken ++ Done ∷ Done ∷ xs) last.1.1 ∙ ap (λ j. replicate j Taken ++ Done ∷ Done ∷ Done ∷ last.1.0) count),
    )

-- ---- the names of the file

-- the fault after which a new name is removed again is none that leaves it
abbrev IsUndone : Step → Type 0
IsUndone (Link n) = ⊤
IsUndone (Compare n) = ⊤
IsUndone (Remove n) = ⊤
IsUndone (Undo n f) = left_by f ≡ None
IsUndone (Moved n) = ⊤
IsUndone (Stopped f) = ⊤

undone_next : (s : Step) (o : Outcome) → IsUndone s → IsUndone (next s o)
undone_next (Link n) Done u = tt
undone_next (Link n) Taken u = elim (nat_lt n LAST) as (λ b. IsUndone (if b then Link (n + 1) else Stopped fault.Full)) [ true ↦ tt | false ↦ tt ]
undone_next (Link n) Elsewhere u = tt
undone_next (Link n) Failed u = tt
undone_next (Compare n) Done u = tt
undone_next (Compare n) Taken u = refl
undone_next (Compare n) Elsewhere u = refl
undone_next (Compare n) Failed u = refl
undone_next (Remove n) Done u = tt
undone_next (Remove n) Taken u = refl
undone_next (Remove n) Elsewhere u = refl
undone_next (Remove n) Failed u = refl
undone_next (Undo n f) Done u = tt
undone_next (Undo n f) Taken u = tt
undone_next (Undo n f) Elsewhere u = tt
undone_next (Undo n f) Failed u = tt
undone_next (Moved n) o u = tt
undone_next (Stopped f) o u = tt

names_next : (s : Step) (o : Outcome) → IsUndone s → changed s o (names_at s) ≡ names_at (next s o)
names_next (Link n) Done u = refl
names_next (Link n) Taken u = elim (nat_lt n LAST) as (λ b. names_at (Link n) ≡ names_at (if b then Link (n + 1) else Stopped fault.Full)) [ true ↦ refl | false ↦ refl ]
names_next (Link n) Elsewhere u = refl
names_next (Link n) Failed u = refl
names_next (Compare n) Done u = refl
names_next (Compare n) Taken u = refl
names_next (Compare n) Elsewhere u = refl
names_next (Compare n) Failed u = refl
names_next (Remove n) Done u = refl
names_next (Remove n) Taken u = refl
names_next (Remove n) Elsewhere u = refl
names_next (Remove n) Failed u = refl
names_next (Undo n f) Done u = ap under_old (sym u)
  where
    under_old : Option ℕ → Names
    under_old new = record { is_old = true; new = new }
names_next (Undo n f) Taken u = refl
names_next (Undo n f) Elsewhere u = refl
names_next (Undo n f) Failed u = refl
names_next (Moved n) Done u = refl
names_next (Moved n) Taken u = refl
names_next (Moved n) Elsewhere u = refl
names_next (Moved n) Failed u = refl
names_next (Stopped f) Done u = refl
names_next (Stopped f) Taken u = refl
names_next (Stopped f) Elsewhere u = refl
names_next (Stopped f) Failed u = refl

names_run : (s : Step) (os : List Outcome) → IsUndone s → names_from s os (names_at s) ≡ names_at (run_from s os)
unfolding run_from names_from
names_run s [] u = refl
names_run s (o ∷ os) u = ap (names_from (next s o) os) (names_next s o u) ∙ names_run (next s o) os (undone_next s o u)

pub keeps : KeepsNames
keeps = λ os. names_run (Link 0) os tt
