use Rattle.std.proofs.Common.{ℕ, ◌≡◌, ◌+◌, ◌≤◌, Bool, true, false, if◌then◌else◌, List, [], ◌∷◌, ◌++◌, take, drop, sym, ap, ◌∙◌, append_assoc, append-nil, arith}
use Rattle.std.proofs.lemmas.List.{take-append-drop}
use Rattle.av_log.specs.Order.{Move, Put, Gone, after, all_given, all_kept, all_lost}
use Rattle.av_log.specs.Queue.{Lines, dropping, gone_of, has_room}

-- a line comes for which there is room, or is none
abbrev came : Bool → List ℕ → Lines → Lines
came b line q = if b then record q { waiting = q.waiting ++ line } else dropping 1 q

pub order : (ms : List Move) (q : Lines) → all_given ms q ++ (after ms q).waiting ≡ q.waiting ++ all_kept ms q
order [] q = sym (append-nil q.waiting)
order (Gone count ∷ ms) q =
    append_assoc (take count q.waiting) (all_given ms (gone_of count q)) (after ms (gone_of count q)).waiting
    ∙ ap (λ t. take count q.waiting ++ t) (order ms (gone_of count q))
    ∙ sym (append_assoc (take count q.waiting) (drop count q.waiting) (all_kept ms (gone_of count q)))
    ∙ ap (λ t. t ++ all_kept ms (gone_of count q)) (take-append-drop count q.waiting)
order (Put line ∷ ms) q =
    elim (has_room line q) as (λ b. all_given ms (came b line q) ++ (after ms (came b line q)).waiting ≡ q.waiting ++ ((if b then line else []) ++ all_kept ms (came b line q))) [
      | true ↦ order ms (came true line q) ∙ append_assoc q.waiting line (all_kept ms (came true line q))
      | false ↦ order ms (came false line q)
    ]

pub counted : (ms : List Move) (q : Lines) → q.dropped + all_lost ms q ≤ 18_446_744_073_709_551_615 → (after ms q).dropped ≡ q.dropped + all_lost ms q
counted [] q fits = omega arith
counted (Gone count ∷ ms) q fits = counted ms (gone_of count q) (omega arith) ∙ omega arith
counted (Put line ∷ ms) q fits =
    (elim (has_room line q) as (λ b. q.dropped + ((if b then 0 else 1) + all_lost ms (came b line q)) ≤ 18_446_744_073_709_551_615
    → (after ms (came b line q)).dropped ≡ q.dropped + ((if b then 0 else 1) + all_lost ms (came b line q))) [
      | true ↦ λ small. counted ms (came true line q) (omega arith) ∙ omega arith
      | false ↦ λ small.
          counted ms (came false line q) (omega arith) ∙ omega arith
    ]) fits
