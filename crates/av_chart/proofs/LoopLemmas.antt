use Rattle.std.proofs.Common.{ℕ, zero, suc, ◌≡◌, ◌<◌, ◌+◌, ◌-◌, ◌^◌, ◌==◌, ◌++◌, min, true, false, List, [], ◌∷◌, length, map, take, get_or, refl, sym, ap, ◌∙◌, append_assoc, append-nil, add-one, arith, is_none, if◌then◌else◌}
use Rattle.av_base.proofs.PartLemmas.{spelt_next}
use Rattle.av_base.specs.Part.{spelt}
use Rattle.av_output.specs.Text.Messages.{placed}
use Rattle.av_chart.specs.Number.{capped}
use Rattle.av_chart.specs.Picture.{again_of, lost_of, waiting}
use Rattle.av_chart.specs.declared.happened.Sent.{Sent}
use Rattle.av_chart.specs.declared.life.Bar.{Bar}

-- one place more
pub placed_next : {A : Type 0} (f : ℕ → A → List ℕ) (k : ℕ) (xs : List A) (i : ℕ) (d : A) → i < length xs
    → placed f k (take (suc i) xs) ≡ placed f k (take i xs) ++ f (k + i) (get_or xs i d)
placed_next f k [] i d lt = absurd (omega arith)
placed_next f k (x ∷ xs) zero d lt =
    let same : k ≡ k + 0 = omega arith in
    append-nil (f k x) ∙ ap (λ n. f n x) same
placed_next f k (x ∷ xs) (suc i) d lt =
    let lower : i < length xs = omega arith in
    let same : (k + 1) + i ≡ k + suc i = omega arith in
    ap (λ t. f k x ++ t) (placed_next f (k + 1) xs i d lower)
    ∙ sym (append_assoc (f k x) (placed f (k + 1) (take i xs)) (f ((k + 1) + i) (get_or xs i d)))
    ∙ ap (λ n. (f k x ++ placed f (k + 1) (take i xs)) ++ f n (get_or xs i d)) same

-- what was put of one place more, behind an old text
pub put_placed : {A : Type 0} (f : ℕ → A → List ℕ) (xs : List A) (i : ℕ) (d : A) (old page new : List ℕ) → i < length xs
    → page ≡ old ++ placed f 0 (take i xs) → new ≡ page ++ f i (get_or xs i d) → new ≡ old ++ placed f 0 (take (i + 1) xs)
put_placed f xs i d old page new lt so put =
    let same : i ≡ 0 + i = omega arith in
    rw add-one
    (put ∙ ap (λ t. t ++ f i (get_or xs i d)) so ∙ append_assoc old (placed f 0 (take i xs)) (f i (get_or xs i d))
    ∙ ap (λ n. old ++ (placed f 0 (take i xs) ++ f n (get_or xs i d))) same
    ∙ ap (λ t. old ++ t) (sym (placed_next f 0 xs i d lt)))

-- what was put of one part more
pub put_spelt : {A : Type 0} (f : A → List ℕ) (xs : List A) (i : ℕ) (d : A) (old page new : List ℕ) → i < length xs
    → page ≡ old ++ spelt (map f (take i xs)) → new ≡ page ++ f (get_or xs i d) → new ≡ old ++ spelt (map f (take (i + 1) xs))
put_spelt f xs i d old page new lt so put =
    rw add-one
    (put ∙ ap (λ t. t ++ f (get_or xs i d)) so ∙ append_assoc old (spelt (map f (take i xs))) (f (get_or xs i d))
    ∙ ap (λ t. old ++ t) (sym (spelt_next f xs i d lt)))

-- what stands behind the first
pub get_behind : (p : List ℕ) (ps : List (List ℕ)) (n : ℕ) → 0 < n → get_or (p ∷ ps) n [] ≡ get_or ps (n - 1) []
get_behind p ps zero lt = absurd (omega arith)
get_behind p ps (suc n) lt =
    let same : n ≡ suc n - 1 = omega arith in
    ap (λ m. get_or ps m []) same

-- an open more that may wait
pub waiting_next : (bs : List Bar) (i : ℕ) (d : Bar) → i < length bs
    → waiting (take (suc i) bs) ≡ waiting (take i bs) + (if is_none (get_or bs i d).end then 1 else 0)
waiting_next [] i d lt = absurd (omega arith)
waiting_next (b ∷ bs) zero d lt = elim (is_none b.end) as (λ v. (if v then 1 + 0 else 0) ≡ 0 + (if v then 1 else 0)) [ true ↦ refl | false ↦ refl ]
waiting_next (b ∷ bs) (suc i) d lt =
    let lower : i < length bs = omega arith in
    let more = if is_none (get_or bs i d).end then 1 else 0 in
    let next : waiting (take (suc i) bs) ≡ waiting (take i bs) + more = waiting_next bs i d lower in
    elim (is_none b.end) as (λ v. (if v then 1 + waiting (take (suc i) bs) else waiting (take (suc i) bs)) ≡ (if v then 1 + waiting (take i bs) else waiting (take i bs)) + more)
    [ true ↦ omega (arith, next) | false ↦ next ]

-- a message more that may never arrive
pub lost_next : (ss : List Sent) (i : ℕ) (d : Sent) → i < length ss
    → lost_of (take (suc i) ss) ≡ lost_of (take i ss) + (if length (get_or ss i d).arrivals.items == 0 then 1 else 0)
lost_next [] i d lt = absurd (omega arith)
lost_next (s ∷ ss) zero d lt = elim (length s.arrivals.items == 0) as (λ v. (if v then 1 + 0 else 0) ≡ 0 + (if v then 1 else 0)) [ true ↦ refl | false ↦ refl ]
lost_next (s ∷ ss) (suc i) d lt =
    let lower : i < length ss = omega arith in
    let more = if length (get_or ss i d).arrivals.items == 0 then 1 else 0 in
    let next : lost_of (take (suc i) ss) ≡ lost_of (take i ss) + more = lost_next ss i d lower in
    elim (length s.arrivals.items == 0) as (λ v. (if v then 1 + lost_of (take (suc i) ss) else lost_of (take (suc i) ss)) ≡ (if v then 1 + lost_of (take i ss) else lost_of (take i ss)) + more)
    [ true ↦ omega (arith, next) | false ↦ next ]

-- the arrivals of a message more
pub again_next : (ss : List Sent) (i : ℕ) (d : Sent) → i < length ss
    → again_of (take (suc i) ss) ≡ again_of (take i ss) + (length (get_or ss i d).arrivals.items - 1)
again_next [] i d lt = absurd (omega arith)
again_next (s ∷ ss) zero d lt = omega arith
again_next (s ∷ ss) (suc i) d lt =
    let lower : i < length ss = omega arith in
    omega (arith, again_next ss i d lower)

-- counts of one more, as loops count them
pub count_waiting : (bs : List Bar) (i : ℕ) (d : Bar) (old r : ℕ) → i < length bs → old ≡ waiting (take i bs)
    → r ≡ (if is_none (get_or bs i d).end then 1 else 0) → old + r ≡ waiting (take (i + 1) bs)
count_waiting bs i d old r lt so own = rw add-one (omega (arith, so, own, waiting_next bs i d lt))

pub count_lost : (ss : List Sent) (i : ℕ) (s : Sent) (old r : ℕ) → i < length ss → old ≡ lost_of (take i ss) → s ≡ get_or ss i s
    → r ≡ (if length s.arrivals.items == 0 then 1 else 0) → old + r ≡ lost_of (take (i + 1) ss)
count_lost ss i s old r lt so is own =
    let here : r ≡ (if length (get_or ss i s).arrivals.items == 0 then 1 else 0) = own ∙ ap (λ (t : Sent). if length t.arrivals.items == 0 then 1 else 0) is in
    rw add-one (omega (arith, so, here, lost_next ss i s lt))

pub count_again : (ss : List Sent) (i : ℕ) (s : Sent) (old r : ℕ) → i < length ss → old ≡ capped (again_of (take i ss)) → s ≡ get_or ss i s
    → r ≡ length s.arrivals.items - 1 → min (old + r) (2 ^ 64 - 1) ≡ capped (again_of (take (i + 1) ss))
count_again ss i s old r lt so is own =
    let here : r ≡ length (get_or ss i s).arrivals.items - 1 = own ∙ ap (λ (t : Sent). length t.arrivals.items - 1) is in
    rw add-one (omega (arith, so, here, again_next ss i s lt))

-- what was put of an element that owns memory
pub put_placed_item : {A : Type 0} (f : ℕ → A → List ℕ) (xs : List A) (i : ℕ) (x : A) (old page new : List ℕ) → i < length xs → x ≡ get_or xs i x
    → page ≡ old ++ placed f 0 (take i xs) → new ≡ page ++ f i x → new ≡ old ++ placed f 0 (take (i + 1) xs)
put_placed_item f xs i x old page new lt is so put = put_placed f xs i x old page new lt so (put ∙ ap (λ t. page ++ f i t) is)

-- what was put by its place alone
pub put_placed_any : {A : Type 0} (f : ℕ → A → List ℕ) (xs : List A) (i : ℕ) (old page new : List ℕ) → i < length xs
    → page ≡ old ++ placed f 0 (take i xs) → ((x : A) → new ≡ page ++ f i x) → new ≡ old ++ placed f 0 (take (i + 1) xs)
put_placed_any f [] i old page new lt so put = absurd (omega arith)
put_placed_any f (x ∷ xs) i old page new lt so put = put_placed f (x ∷ xs) i x old page new lt so (put (get_or (x ∷ xs) i x))
