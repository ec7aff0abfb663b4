use Rattle.std.proofs.Common.{ℕ, zero, suc, ◌≡◌, ◌<◌, ◌++◌, List, [], ◌∷◌, length, map, take, get_or, sym, ap, ◌∙◌, append_assoc, append-nil, arith, Result, Ok, Err, OnOk}
use Rattle.std.proofs.lemmas.List.{map-append}
use Rattle.av_log.specs.Words.{Item, item_text, items_text}

-- one item more
pub items_next : {A : Type 0} (f : A → Item) (xs : List A) (i : ℕ) (d : A) → i < length xs
    → items_text (map f (take (suc i) xs)) ≡ items_text (map f (take i xs)) ++ 32 ∷ item_text (f (get_or xs i d))
items_next f [] i d lt = absurd (omega arith)
items_next f (x ∷ xs) zero d lt = append-nil (32 ∷ item_text (f x))
items_next f (x ∷ xs) (suc i) d lt =
    let lower : i < length xs = omega arith in
    ap (λ t. 32 ∷ (item_text (f x) ++ t)) (items_next f xs i d lower)
    ∙ ap (λ t. 32 ∷ t) (sym (append_assoc (item_text (f x)) (items_text (map f (take i xs))) (32 ∷ item_text (f (get_or xs i d)))))

-- one element more of a list that is looked at element by element
pub map_one : {A B : Type 0} (f : A → B) (xs : List A) (x : A) → map f (xs ++ x ∷ []) ≡ map f xs ++ f x ∷ []
map_one f xs x = map-append f xs (x ∷ [])

-- what is put after something that was put
pub put_then : {E A : Type 0} (r : Result (Unit {0}) E) (new mid old a b : List A) → mid ≡ old ++ a → OnOk r (new ≡ mid ++ b) → OnOk r (new ≡ old ++ (a ++ b))
put_then (Ok u) new mid old a b first second = second ∙ ap (λ t. t ++ b) first ∙ append_assoc old a b
put_then (Err e) new mid old a b first second = second
