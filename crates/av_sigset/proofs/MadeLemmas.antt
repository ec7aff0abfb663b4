use Rattle.std.proofs.Common.{ℕ, ◌≡◌, ◌≤◌, ◌+◌, ◌==◌, Bool, true, false, cond, List, [], ◌∷◌, length, Option, None, Some, nat_le, nat_lt, nat_eq, refl, arith}
use Rattle.std.proofs.lemmas.Bool.{or_parts}
use Rattle.std.proofs.lemmas.Bool.Decides.{nat_tests}
use Rattle.std.proofs.lemmas.List.Sums.{sum_by-cons}
use Rattle.std.specs.List.{AllByRecursion}
use Rattle.av_sigset.specs.declared.signature.Pattern.{Pattern}
use Rattle.av_sigset.specs.Made.{fault_in, serial_signatures, set_made}
use Rattle.av_base.specs.Refused.{unless}
use Rattle.std.specs.Result.{result_err}
use Rattle.av_sigset.specs.Judge.{bad_line}
use Rattle.av_sigset.specs.declared.fault.SetFaultKind.TheVariants.{Version}
use Rattle.av_sigset.specs.Set.{NumberedSet, AreInRange, IsSet, HasRightLength, IsSpan, patterns_of, byte_count}

-- where no test holds
none_holds : {A : Type 0} (x y z : Bool) (a b c : A) (r : Option A) → cond x (Some a) (cond y (Some b) (cond z (Some c) r)) ≡ None → (x ≡ false) × (y ≡ false) × (z ≡ false) × (r ≡ None)
none_holds true y z a b c r h = absurd cc
none_holds false true z a b c r h = absurd cc
none_holds false false true a b c r h = absurd cc
none_holds false false false a b c r h = (refl, refl, refl, h)

-- what patterns without a fault have, behind so many with so many bytes
record Fit (count bytes i : ℕ) (ps : List Pattern) : Type 0 where
  pub some : count + length (patterns_of (serial_signatures i ps)) ≤ 1024
  pub lengths : AllByRecursion HasRightLength (patterns_of (serial_signatures i ps))
  pub spans : AllByRecursion (λ (p : Pattern). IsSpan p.span) (patterns_of (serial_signatures i ps))
  pub short : bytes + byte_count (patterns_of (serial_signatures i ps)) ≤ 16384

fit : (count bytes i : ℕ) (ps : List Pattern) → count ≤ 1024 → bytes ≤ 16384 → fault_in count bytes ps ≡ None → Fit count bytes i ps
unfolding fault_in serial_signatures
fit count bytes i [] few short none = record { some = omega arith; lengths = tt; spans = tt; short = omega arith }
fit count bytes i (p ∷ ps) few short none =
    let tests = none_holds _ _ _ _ _ _ _ none in
    let right = or_parts (nat_eq (length p.bytes) 0) (nat_lt 64 (length p.bytes)) tests.0 in
    let spans = or_parts (nat_lt p.span.high p.span.low) (nat_lt 1048575 p.span.high) tests.1 in
    let room = or_parts (nat_le 1024 count) (nat_lt 16384 (bytes + length p.bytes)) tests.2 in
    let first : p.span.low ≤ p.span.high = (let e : nat_lt p.span.high p.span.low ≡ false = spans.0 in grind (arith, nat_tests)) in
    let last : p.span.high ≤ 1048575 = (let e : nat_lt 1048575 p.span.high ≡ false = spans.1 in grind (arith, nat_tests)) in
    let low : 1 ≤ length p.bytes = (let e : nat_eq (length p.bytes) 0 ≡ false = right.0 in grind (arith, nat_tests)) in
    let high : length p.bytes ≤ 64 = (let e : nat_lt 64 (length p.bytes) ≡ false = right.1 in grind (arith, nat_tests)) in
    let more : count + 1 ≤ 1024 = (let e : nat_le 1024 count ≡ false = room.0 in grind (arith, nat_tests)) in
    let within : bytes + length p.bytes ≤ 16384 = (let e : nat_lt 16384 (bytes + length p.bytes) ≡ false = room.1 in grind (arith, nat_tests)) in
    let rest = fit (count + 1) (bytes + length p.bytes) (i + 1) ps more within tests.3 in
    record { some = omega (arith, rest.some); lengths = ((low, high), rest.lengths); spans = ((first, last), rest.spans); short = omega (arith, rest.short, sum_by-cons (λ (q : Pattern). length q.bytes) p (patterns_of (serial_signatures (i + 1) ps))) }

-- patterns without a fault are in their ranges
pub ranges_made : (ps : List Pattern) → fault_in 0 0 ps ≡ None → AreInRange (patterns_of (serial_signatures 0 ps))
ranges_made ps none = let all = fit 0 0 0 ps (omega arith) (omega arith) none in record { count = omega (arith, all.some); lengths = all.lengths; spans = all.spans; bytes = omega (arith, all.short) }

-- where nothing is wrong with the patterns they make a set
pub made_set : (version : ℕ) (ps : List Pattern) → result_err (set_made version ps) ≡ None → IsSet (record { version = version; signatures = serial_signatures 0 ps })
made_set version ps no_fault =
    (elim (version == 0) as (λ b. (version == 0) ≡ b
    → result_err (cond b (bad_line 2 Version) (unless {A = NumberedSet} (fault_in 0 0 ps) (record { version = version; signatures = serial_signatures 0 ps }))) ≡ None
    → IsSet (record { version = version; signatures = serial_signatures 0 ps })) [
      | true ↦ λ is h. absurd cc
      | false ↦ λ is h.
          (elim (fault_in 0 0 ps) as (λ o. fault_in 0 0 ps ≡ o → result_err (unless {A = NumberedSet} o (record { version = version; signatures = serial_signatures 0 ps })) ≡ None
          → IsSet (record { version = version; signatures = serial_signatures 0 ps })) [
            | None ↦ λ none k. record { version = grind (arith, nat_tests); ranges = ranges_made ps none }
            | Some fault ↦ λ some k. absurd cc
          ]) refl h
    ]) refl no_fault
