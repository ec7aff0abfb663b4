-- What holds of each of a list holds of one more.
use Rattle.std.proofs.Common.{◌≡◌, ◌<◌, ◌+◌, ℕ, List, [], ◌∷◌, ◌++◌, get_or, length, take, sym, ap, ◌∙◌, subst}
use Rattle.std.specs.List.{AllByRecursion as Each}
use Rattle.std.proofs.lemmas.List.{take_more}

pub each_push : {A : Type 0} (P : A → Type 0) (xs : List A) (x : A) → Each P xs → P x → Each P (xs ++ x ∷ [])
each_push P [] x all one = (one, tt)
each_push P (y ∷ ys) x all one = (all.0, each_push P ys x all.1 one)

pub each_next : {A : Type 0} (P : A → Type 0) (xs : List A) (i : ℕ) (x : A) → i < length xs → x ≡ get_or xs i x → Each P (take i xs) → P x → Each P (take (i + 1) xs)
each_next P xs i x lt at all one =
    subst (Each P) (sym (take_more xs i x lt ∙ ap (λ y. take i xs ++ y ∷ []) (sym at))) (each_push P (take i xs) x all one)
