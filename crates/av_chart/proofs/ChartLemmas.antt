use Rattle.std.proofs.Common.{ℕ, ◌≡◌, List, Option, None, Some, IfSome, subst}

-- what holds of a text holds of what was there to be read, where that is the text
pub some_of : (o : Option (List ℕ)) (P : List ℕ → Type 0) (t : List ℕ) → IfSome o (λ input. t ≡ input) → P t → IfSome o P
some_of None P t so p = tt
some_of (Some input) P t so p = subst P so p
