-- What a stream gives, however it is cut.
use Rattle.std.proofs.Common.{ℕ, zero, suc, ◌≡◌, ◌≤◌, List, [], ◌∷◌, ◌++◌, length, drop, Result, Ok, Err, refl, sym, ◌∙◌, ap, subst, arith, length-drop}
use Rattle.std.specs.Prelude.{Option, Some, None}
use Rattle.std.proofs.lemmas.List.{drop-append-le}
use Rattle.av_asks.specs.Laws.{Ends, FaultStays, Gives, GivesOneThing, GivesSomething, GoesOn}
use Rattle.av_asks.proofs.FrontLemmas.{IsSized, IsSteady}

kept : {A F : Type 0} (front : List ℕ → Result (Option (A × ℕ)) F) → IsSteady front → (a b : List ℕ) (x : A) (n : ℕ) → front a ≡ Ok (Some (x, n)) → front (a ++ b) ≡ Ok (Some (x, n))
kept {A} {F} front steady a b x n e = steady a b (Ok (Some (x, n))) e (λ none. let clash : ◌≡◌ {A = Result (Option (A × ℕ)) F} (Ok (Some (x, n))) (Ok None) = sym e ∙ none in absurd cc)

pub goes_on : {A F : Type 0} (front : List ℕ → Result (Option (A × ℕ)) F) → IsSteady front → IsSized front → GoesOn front
goes_on front steady sized first second [] ys rest last end one two = subst (λ b. Gives front (b ++ second) ys last end) (sym one.0) two
goes_on front steady sized first second (x ∷ xs) ys rest last end one two =
    let n = one.0 in
    let more = goes_on front steady sized (drop n first) second xs ys rest last end one.2 two in
    let cut = drop-append-le n first second (sized first x n one.1).1 in
    (n, kept front steady first second x n one.1, subst (λ b. Gives front b (xs ++ ys) last end) (sym cut) more)

pub fault_stays : {A F : Type 0} (front : List ℕ → Result (Option (A × ℕ)) F) → IsSteady front → IsSized front → FaultStays front
fault_stays {A} {F} front steady sized first second [] rest f one =
    let told : front (rest ++ second) ≡ Err f = steady rest second (Err f) one.1 (λ none. let clash : ◌≡◌ {A = Result (Option (A × ℕ)) F} (Err f) (Ok None) = sym one.1 ∙ none in absurd cc) in
    (ap (λ b. b ++ second) one.0, told)
fault_stays front steady sized first second (x ∷ xs) rest f one =
    let n = one.0 in
    let more = fault_stays front steady sized (drop n first) second xs rest f one.2 in
    let cut = drop-append-le n first second (sized first x n one.1).1 in
    (n, kept front steady first second x n one.1, subst (λ b. Gives front b xs (rest ++ second) (Some f)) (sym cut) more)

-- ---- one thing alone

ends_alike : {A F : Type 0} (front : List ℕ → Result (Option (A × ℕ)) F) (rest : List ℕ) (end stop : Option F) → Ends front rest end → Ends front rest stop → end ≡ stop
ends_alike front rest None None one two = refl
ends_alike {A} {F} front rest None (Some f) one two = let clash : ◌≡◌ {A = Result (Option (A × ℕ)) F} (Ok None) (Err f) = sym one ∙ two in absurd cc
ends_alike {A} {F} front rest (Some f) None one two = let clash : ◌≡◌ {A = Result (Option (A × ℕ)) F} (Err f) (Ok None) = sym one ∙ two in absurd cc
ends_alike {A} {F} front rest (Some f) (Some g) one two = let same : ◌≡◌ {A = Result (Option (A × ℕ)) F} (Err f) (Err g) = sym one ∙ two in cc

no_more : {A F : Type 0} (front : List ℕ → Result (Option (A × ℕ)) F) (rest : List ℕ) (end : Option F) (x : A) (n : ℕ) → Ends front rest end → front rest ≡ Ok (Some (x, n)) → ⊥
no_more {A} {F} front rest None x n ends e = let clash : ◌≡◌ {A = Result (Option (A × ℕ)) F} (Ok None) (Ok (Some (x, n))) = sym ends ∙ e in absurd cc
no_more {A} {F} front rest (Some f) x n ends e = let clash : ◌≡◌ {A = Result (Option (A × ℕ)) F} (Err f) (Ok (Some (x, n))) = sym ends ∙ e in absurd cc

same_pair : {A F : Type 0} (x y : A) (n k : ℕ) → ◌≡◌ {A = Result (Option (A × ℕ)) F} (Ok (Some (x, n))) (Ok (Some (y, k))) → ◌≡◌ {A = A × ℕ} (x, n) (y, k)
same_pair x y n k e = cc

pub gives_one_thing : {A F : Type 0} (front : List ℕ → Result (Option (A × ℕ)) F) → GivesOneThing front
gives_one_thing front bytes [] [] rest other end stop one two =
    let same : rest ≡ other = sym one.0 ∙ two.0 in
    (refl, same, ends_alike front other end stop (subst (λ b. Ends front b end) same one.1) two.1)
gives_one_thing front bytes [] (y ∷ ys) rest other end stop one two = absurd (no_more front bytes end y two.0 (subst (λ b. Ends front b end) (sym one.0) one.1) two.1)
gives_one_thing front bytes (x ∷ xs) [] rest other end stop one two = absurd (no_more front bytes stop x one.0 (subst (λ b. Ends front b stop) (sym two.0) two.1) one.1)
gives_one_thing front bytes (x ∷ xs) (y ∷ ys) rest other end stop one two =
    let pair = same_pair x y one.0 two.0 (sym one.1 ∙ two.1) in
    let behind = subst (λ n. Gives front (drop n bytes) xs rest end) (ap (λ p. p.1) pair) one.2 in
    let others = gives_one_thing front (drop two.0 bytes) xs ys rest other end stop behind two.2 in
    (ap (λ p. p.0 ∷ xs) pair ∙ ap (λ l. y ∷ l) others.0, others.1, others.2)

-- ---- something

something_within : {A F : Type 0} (front : List ℕ → Result (Option (A × ℕ)) F) → IsSized front → (turns : ℕ) (bytes : List ℕ) → length bytes ≤ turns → (xs : List A) × (rest : List ℕ) × (end : Option F) × Gives front bytes xs rest end
something_within {A} {F} front sized zero bytes short =
    (elim (front bytes) as (λ r. front bytes ≡ r → (xs : List A) × (rest : List ℕ) × (end : Option F) × Gives front bytes xs rest end) [
      | Ok None ↦ λ e. ([], bytes, None, (refl, e))
      | Ok (Some (x, n)) ↦ λ e. let s = sized bytes x n e in absurd (omega (arith, short, s.0, s.1))
      | Err f ↦ λ e. ([], bytes, Some f, (refl, e))
    ]) refl
something_within {A} {F} front sized (suc turns) bytes short =
    (elim (front bytes) as (λ r. front bytes ≡ r → (xs : List A) × (rest : List ℕ) × (end : Option F) × Gives front bytes xs rest end) [
      | Ok None ↦ λ e. ([], bytes, None, (refl, e))
      | Ok (Some (x, n)) ↦ λ e.
          let s = sized bytes x n e in
          let more = something_within front sized turns (drop n bytes) (omega (arith, length-drop n bytes, short, s.0, s.1)) in
          (x ∷ more.0, more.1, more.2, (n, e, more.3))
      | Err f ↦ λ e. ([], bytes, Some f, (refl, e))
    ]) refl

pub gives_something : {A F : Type 0} (front : List ℕ → Result (Option (A × ℕ)) F) → IsSized front → GivesSomething front
gives_something front sized bytes = something_within front sized (length bytes) bytes (omega arith)
