use Rattle.std.proofs.Common.{◌≡◌, ◌++◌, List, [], ap, ◌∙◌, append_assoc, append-nil}

-- what was put in five steps stands as one list
pub five_put : {A : Type 0} (old begin first second third end t1 t2 t3 t4 t5 : List A) → t1 ≡ old ++ begin → t2 ≡ t1 ++ (first ++ []) → t3 ≡ t2 ++ second
    → t4 ≡ t3 ++ third → t5 ≡ t4 ++ end → t5 ≡ old ++ (begin ++ (first ++ (second ++ (third ++ end))))
five_put old begin first second third end t1 t2 t3 t4 t5 e1 e2 e3 e4 e5 =
    e5 ∙ ap (λ t. t ++ end) (e4 ∙ ap (λ t. t ++ third) (e3 ∙ ap (λ t. t ++ second) (e2 ∙ ap (λ t. t1 ++ t) (append-nil first) ∙ ap (λ t. t ++ first) e1)))
    ∙ append_assoc (((old ++ begin) ++ first) ++ second) third end ∙ append_assoc ((old ++ begin) ++ first) second (third ++ end)
    ∙ append_assoc (old ++ begin) first (second ++ (third ++ end)) ∙ append_assoc old begin (first ++ (second ++ (third ++ end)))
