-- Which clients a change of one leaves as they were.
use Rattle.std.proofs.Common.{ℕ, ◌≡◌, ◌∙◌, ◌++◌, cond, nat_eq, List, [], ◌∷◌, Option, Some, Result, Ok, Err, Bor, arith, sym, subst}
use Rattle.std.specs.Result.{OnOk}
use Rattle.std.proofs.lemmas.Bool.Decides.{nat_tests}
use Rattle.std.specs.BTreeMap.{is_at}
use Rattle.std.specs.Map.{set_value}
use Rattle.std.specs.Ordering.{nat_cmp}
use Rattle.av_peers.specs.Client.{told_text}
use Rattle.av_peers.specs.declared.client.Client.{Client}
use Rattle.av_peers.specs.declared.told.LargeTold.{LargeTold}
use Rattle.av_peers.specs.Clients.{HasAnswer, IsSilent, IsSilentBeside, IsTold, client_at, waiting_of}

-- a client in the place of another one
at_set : (q n : ℕ) (es : List (ℕ × Client)) (was w : Client) → client_at n es ≡ Some was → client_at q (set_value (is_at (nat_cmp n)) es w) ≡ cond (nat_eq q n) (Some w) (client_at q es)
at_set q n [] was w some = grind (arith, some)
at_set q n (e ∷ es) was w some = grind (arith, nat_tests, some, at_set q n es was w)

set_beside : (n : ℕ) (es : List (ℕ × Client)) (was w : Client) → client_at n es ≡ Some was → IsSilentBeside n es (set_value (is_at (nat_cmp n)) es w)
set_beside n es was w there m other = grind (arith, nat_tests, at_set m n es was w there, other)

set_own : (n : ℕ) (es : List (ℕ × Client)) (was w : Client) → client_at n es ≡ Some was → client_at n (set_value (is_at (nat_cmp n)) es w) ≡ Some w
set_own n es was w there = grind (arith, nat_tests, at_set n n es was w there)

-- a client that has something more to be sent
told_set : (n tag : ℕ) (told : LargeTold) (es : List (ℕ × Client)) (was w : Client) → client_at n es ≡ Some was → HasAnswer was tag told (waiting_of w) → IsTold n tag told es (set_value (is_at (nat_cmp n)) es w)
told_set n tag told es was w there has = record {
  own = λ text waits. (was, there, subst (HasAnswer was tag told) (grind (arith, set_own n es was w there, waits)) has);
  others = set_beside n es was w there;
}

-- nothing more is told to anybody
pub told_then_silent : (n tag : ℕ) (told : LargeTold) (old next new : List (ℕ × Client)) → IsTold n tag told old next → IsSilent next new → IsTold n tag told old new
told_then_silent n tag told old next new was silent = record {
  own = λ text waits. was.own text (sym (silent n) ∙ waits);
  others = λ m other. silent m ∙ was.others m other;
}

-- a client that is told an answer, where there is memory for it
pub told_by : {E : Type 0} → (done : Result (Unit {0}) E) (n tag : ℕ) (told : LargeTold) (es new : List (ℕ × Client)) (was w : Client) (name : Option (Bor (List ℕ))) → client_at n es ≡ Some was → new ≡ set_value (is_at (nat_cmp n)) es w
    → OnOk done (waiting_of w ≡ waiting_of was ++ told_text was.speech tag told name) → OnOk done (IsTold n tag told es new)
told_by (Ok done) n tag told es new was w name there set has = subst (IsTold n tag told es) (sym set) (told_set n tag told es was w there (name, has))
told_by (Err fault) n tag told es new was w name there set has = tt

-- what comes behind an answer tells nothing more, where it ends well
pub told_on : {A E : Type 0} → (r : Result A E) (n tag : ℕ) (told : LargeTold) (old next new : List (ℕ × Client)) → IsTold n tag told old next → OnOk r (IsSilent next new) → OnOk r (IsTold n tag told old new)
told_on (Ok a) n tag told old next new was silent = told_then_silent n tag told old next new was silent
told_on (Err fault) n tag told old next new was silent = tt
