use Rattle.std.proofs.Common.{ℕ, ◌≡◌, inl, inr, ◌<◌, ◌≤◌, ◌+◌, ◌-◌, ◌*◌, ◌==◌, true, List, [], ◌∷◌, length, take, drop, slice_index, refl, sym, ◌∙◌, ap, ap₂, subst, arith, eq-eqb, length-drop, get_or-drop}
use Rattle.std.proofs.lemmas.Bool.{cases_lt}
use Rattle.std.proofs.lemmas.List.{take_more}
use Rattle.av_match.specs.declared.cells.Reached.TheVariants.{Through}
use Rattle.av_match.specs.declared.parts.Places.{Places}
use Rattle.av_match.specs.declared.tables.Tables.{Tables}
use Rattle.av_match.specs.Leaps.{AreFree}
use Rattle.av_match.specs.Passed.{IsPassed, AreOver, ArePassed}
use Rattle.av_match.specs.Places.{AreAllOver, AreAllPassed}
use Rattle.av_match.specs.Reach.{reach}
use Rattle.av_match.specs.Shifts.{pair_at, shift_at}
use Rattle.av_match.proofs.ReachLemmas.{reach_joined}

-- a window's pair is the one at its place among the bytes from the first window's pair on
pub pairs_same : (shifts w pairs : List ℕ) (m a : ℕ) → 2 ≤ m → pairs ≡ drop (m - 2) w → slice_index shifts (pair_at pairs a) ≡ shift_at shifts m w a
pairs_same shifts w pairs m a two is =
    let first : m - 2 + a ≡ a + m - 2 = omega arith in
    let second : m - 2 + (a + 1) ≡ a + m - 2 + 1 = omega arith in
    ap (λ v. slice_index shifts (pair_at v a)) is
    ∙ ap₂ (λ b c. slice_index shifts (b + 256 * c)) (get_or-drop (m - 2) w a 0 ∙ ap (slice_index w) first) (get_or-drop (m - 2) w (a + 1) 0 ∙ ap (slice_index w) second)

-- a way through goes on by one byte
pub reach_more : (cells outputs w : List ℕ) (s m n : ℕ) → reach cells outputs s 0 (take n w) ≡ Through m → n < length w → slice_index outputs (slice_index cells (256 * m + slice_index w n)) ≡ 0
    → reach cells outputs s 0 (take (n + 1) w) ≡ Through (slice_index cells (256 * m + slice_index w n))
reach_more cells outputs w s m n so_far l silent =
    let b = slice_index w n in
    ap (reach cells outputs s 0) (take_more w n 0 l) ∙ reach_joined cells outputs (take n w) (b ∷ []) s 0 m so_far
    ∙ (let test : (slice_index outputs (slice_index cells (256 * m + b)) == 0) ≡ true = eq-eqb _ _ silent in rw test refl)

pub walk_more : (cells outputs w : List ℕ) (at place m : ℕ) → at ≤ place → place < length w → reach cells outputs 0 0 (take (place - at) (drop at w)) ≡ Through m → slice_index outputs (slice_index cells (256 * m + slice_index w place)) ≡ 0
    → reach cells outputs 0 0 (take (place + 1 - at) (drop at w)) ≡ Through (slice_index cells (256 * m + slice_index w place))
walk_more cells outputs w at place m low high so_far silent =
    let left : length (drop at w) ≡ length w - at = length-drop at w in
    let byte : slice_index (drop at w) (place - at) ≡ slice_index w place = get_or-drop at w (place - at) 0 ∙ ap (slice_index w) (let e : at + (place - at) ≡ place = omega arith in e) in
    let count : place - at + 1 ≡ place + 1 - at = omega arith in
    let more = reach_more cells outputs (drop at w) 0 m (place - at) so_far (omega arith) (ap (λ b. slice_index outputs (slice_index cells (256 * m + b))) byte ∙ silent) in
    ap (λ n. reach cells outputs 0 0 (take n (drop at w))) (sym count) ∙ more ∙ ap (λ b. Through (slice_index cells (256 * m + b))) byte

module _ (t : Tables) (w : List ℕ) where
  -- the window moves on
  pub over_more : (lo a p : ℕ) → AreOver t w lo a → a + t.window ≤ length w → p ≡ shift_at t.shifts.now t.window w a → AreOver t w lo (a + p)
  over_more lo a p so_far room is i low high =
      elim (cases_lt i a) [
        | inl before ↦ so_far i low before
        | inr after ↦ record { start = a; from = after; past = omega (arith, is, high); room = room }
      ]

  -- the same by the window's pair
  pub over_pair : (pairs : List ℕ) (lo a p : ℕ) → 2 ≤ t.window → pairs ≡ drop (t.window - 2) w → AreOver t w lo a → a + t.window ≤ length w → p ≡ slice_index t.shifts.now (pair_at pairs a) → AreOver t w lo (a + p)
  over_pair pairs lo a p two is so_far room far = over_more lo a p so_far room (far ∙ pairs_same t.shifts.now w pairs t.window a two is)

  -- eight windows are moved at once
  pub free_more : (pairs : List ℕ) (lo a : ℕ) → 2 ≤ t.window → pairs ≡ drop (t.window - 2) w → AreOver t w lo a → a + 7 * (t.window - 1) + t.window ≤ length w → AreFree t.shifts.now pairs (t.window - 1) a
      → AreOver t w lo (a + 8 * (t.window - 1))
  free_more pairs lo a two is so_far room free =
      let n = t.window - 1 in
      let one = on a (a + n) (omega arith) so_far (omega arith) free.a in
      let two_ = on (a + n) (a + 2 * n) (omega arith) one (omega arith) free.b in
      let three = on (a + 2 * n) (a + 3 * n) (omega arith) two_ (omega arith) free.c in
      let four = on (a + 3 * n) (a + 4 * n) (omega arith) three (omega arith) free.d in
      let five = on (a + 4 * n) (a + 5 * n) (omega arith) four (omega arith) free.e in
      let six = on (a + 5 * n) (a + 6 * n) (omega arith) five (omega arith) free.f in
      let seven = on (a + 6 * n) (a + 7 * n) (omega arith) six (omega arith) free.g in
      on (a + 7 * n) (a + 8 * n) (omega arith) seven (omega arith) free.h
    where
      on : (at after : ℕ) → at + (t.window - 1) ≡ after → AreOver t w lo at → at + t.window ≤ length w → slice_index t.shifts.now (pair_at pairs at) ≡ t.window - 1 → AreOver t w lo after
      on at after sum over fits free_at = subst (AreOver t w lo) sum (over_pair pairs lo at (t.window - 1) two is over fits (sym free_at))

  pub over_passed : (lo hi : ℕ) → AreOver t w lo hi → ArePassed t w lo hi
  over_passed lo hi over i low high = inl (over i low high)

  -- what is passed from a place no further on
  pub passed_joined : (lo mid hi from : ℕ) → ArePassed t w lo mid → ArePassed t w from hi → from ≤ mid → ArePassed t w lo hi
  passed_joined lo mid hi from one two l i low high =
      elim (cases_lt i mid) as (λ _. IsPassed t w i) [
        | inl before ↦ one i low before
        | inr after ↦ two i (omega arith) high
      ]

  pub passed_on : (lo mid hi : ℕ) → ArePassed t w lo mid → ArePassed t w mid hi → ArePassed t w lo hi
  passed_on lo mid hi one two = passed_joined lo mid hi mid one two (omega arith)

  -- six parts go on
  pub all_joined : (p q r s : Places) → AreAllPassed t w p q → AreAllOver t w q r → AreAllPassed t w r s → AreAllPassed t w p s
  all_joined p q r s one two three = record {
    a = on p.a q.a r.a s.a one.a two.a three.a;
    b = on p.b q.b r.b s.b one.b two.b three.b;
    c = on p.c q.c r.c s.c one.c two.c three.c;
    d = on p.d q.d r.d s.d one.d two.d three.d;
    e = on p.e q.e r.e s.e one.e two.e three.e;
    f = on p.f q.f r.f s.f one.f two.f three.f;
  }
    where
      on : (i j k l : ℕ) → ArePassed t w i j → AreOver t w j k → ArePassed t w k l → ArePassed t w i l
      on i j k l x y z = passed_on i k l (passed_on i j k x (over_passed j k y)) z
