use Rattle.std.proofs.Common.{ℕ, zero, suc, ◌≡◌, ◌<◌, ◌++◌, List, [], ◌∷◌, length, map, take, get_or, sym, ap, ◌∙◌, append_assoc, append-nil, arith}
use Rattle.av_log.specs.Line.{item_tokens, items_tokens}
use Rattle.av_log.specs.Words.{Item}

-- one item more
pub tokens_next : {A : Type 0} (f : A → Item) (xs : List A) (i : ℕ) (d : A) → i < length xs
    → items_tokens (map f (take (suc i) xs)) ≡ items_tokens (map f (take i xs)) ++ item_tokens (f (get_or xs i d))
tokens_next f [] i d lt = absurd (omega arith)
tokens_next f (x ∷ xs) zero d lt = append-nil (item_tokens (f x))
tokens_next f (x ∷ xs) (suc i) d lt =
    let lower : i < length xs = omega arith in
    ap (λ t. item_tokens (f x) ++ t) (tokens_next f xs i d lower)
    ∙ sym (append_assoc (item_tokens (f x)) (items_tokens (map f (take i xs))) (item_tokens (f (get_or xs i d))))
