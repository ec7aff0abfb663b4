-- Members of a list, and what holds of each.
use Rattle.std.proofs.Common.{List, [], ◌∷◌, ◌++◌, refl, sym, subst, inl, inr}
use Rattle.std.specs.List.{AllByRecursion as Each}
use Rattle.av_base.specs.Among.{Among}

pub among_left : {A : Type 0} (x : A) (xs ys : List A) → Among x xs → Among x (xs ++ ys)
among_left x [] ys a = absurd a
among_left x (z ∷ zs) ys (inl e) = inl e
among_left x (z ∷ zs) ys (inr a) = inr (among_left x zs ys a)

pub among_right : {A : Type 0} (x : A) (xs ys : List A) → Among x ys → Among x (xs ++ ys)
among_right x [] ys a = a
among_right x (z ∷ zs) ys a = inr (among_right x zs ys a)

pub among_each : {A : Type 0} (P : A → Type 0) (xs : List A) (x : A) → Each P xs → Among x xs → P x
among_each P [] x all a = absurd a
among_each P (y ∷ ys) x all (inl e) = subst P (sym e) all.0
among_each P (y ∷ ys) x all (inr a) = among_each P ys x all.1 a

each_more : {A : Type 0} (x : A) (ys xs : List A) → Each (λ y. Among y ys) xs → Each (λ y. Among y (x ∷ ys)) xs
each_more x ys [] all = tt
each_more x ys (z ∷ zs) all = (inr all.0, each_more x ys zs all.1)

pub each_self : {A : Type 0} (xs : List A) → Each (λ x. Among x xs) xs
each_self [] = tt
each_self (x ∷ xs) = (inl refl, each_more x xs xs (each_self xs))
