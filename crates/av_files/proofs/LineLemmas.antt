-- Lines of those that have one.
use Rattle.std.proofs.Common.{ℕ, zero, suc, ◌≡◌, ◌<◌, ◌++◌, Bool, false, true, if◌then◌else◌, cond, List, [], ◌∷◌, length, map, take, drop, get_or, refl, sym, ap, ◌∙◌, append_assoc, append-nil, arith}
use Rattle.std.specs.List.{filter}
use Rattle.av_base.specs.Part.{spelt}

-- the line of one, if it has one, and then the others
spelt_first : {A : Type 0} (f : A → List ℕ) (shows : A → Bool) (p : A) (ps : List A)
    → spelt (map f (filter shows (p ∷ ps))) ≡ (if shows p then f p else []) ++ spelt (map f (filter shows ps))
spelt_first f shows p ps =
    elim (shows p) as (λ v. spelt (map f (cond v (p ∷ filter shows ps) (filter shows ps))) ≡ cond v (f p) [] ++ spelt (map f (filter shows ps))) [
      | true ↦ refl
      | false ↦ refl
    ]

-- one more, which may have a line
pub shown_next : {A : Type 0} (f : A → List ℕ) (shows : A → Bool) (ps : List A) (i : ℕ) (d : A) → i < length ps
    → spelt (map f (filter shows (take (suc i) ps))) ≡ spelt (map f (filter shows (take i ps))) ++ (if shows (get_or ps i d) then f (get_or ps i d) else [])
shown_next f shows [] i d lt = absurd (omega arith)
shown_next f shows (p ∷ ps) zero d lt = spelt_first f shows p [] ∙ append-nil _
shown_next f shows (p ∷ ps) (suc i) d lt =
    let lower : i < length ps = omega arith in
    let line : List ℕ = if shows p then f p else [] in
    let before : List ℕ = spelt (map f (filter shows (take i ps))) in
    spelt_first f shows p (take (suc i) ps)
    ∙ ap (λ t. line ++ t) (shown_next f shows ps i d lower)
    ∙ sym (append_assoc line before (if shows (get_or ps i d) then f (get_or ps i d) else []))
    ∙ ap (λ t. t ++ (if shows (get_or ps i d) then f (get_or ps i d) else [])) (sym (spelt_first f shows p (take i ps)))

-- the lines before one, the one that it may have, and those behind it
pub shown_around : {A : Type 0} (f : A → List ℕ) (shows : A → Bool) (ps : List A) (i : ℕ) (d : A) → i < length ps
    → spelt (map f (filter shows (take i ps))) ++ ((if shows (get_or ps i d) then f (get_or ps i d) else []) ++ spelt (map f (filter shows (drop (suc i) ps))))
    ≡ spelt (map f (filter shows ps))
shown_around f shows [] i d lt = absurd (omega arith)
shown_around f shows (p ∷ ps) zero d lt = sym (spelt_first f shows p ps)
shown_around f shows (p ∷ ps) (suc i) d lt =
    let lower : i < length ps = omega arith in
    let line : List ℕ = if shows p then f p else [] in
    let before : List ℕ = spelt (map f (filter shows (take i ps))) in
    let behind : List ℕ = (if shows (get_or ps i d) then f (get_or ps i d) else []) ++ spelt (map f (filter shows (drop (suc i) ps))) in
    ap (λ t. t ++ behind) (spelt_first f shows p (take i ps)) ∙ append_assoc line before behind
    ∙ ap (λ t. line ++ t) (shown_around f shows ps i d lower) ∙ sym (spelt_first f shows p ps)
