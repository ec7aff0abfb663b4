use Rattle.std.proofs.Common.{◌≡◌, ◌+◌, ◌-◌, ◌<◌, ◌≤◌, ℕ, List, Some, refl, ap, ◌∙◌, arith, length, drop, slice_index, get_or-drop, length-drop}
use Rattle.memchr.specs.Find.{Nowhere}
use Rattle.memchr.specs.Pairs.{HasPair, first_index, pair_of, second_index}
use Rattle.av_match.specs.Passed.{IsMissed}
use Rattle.av_match.specs.declared.rare.RareBytes.{RareBytes}
use Rattle.av_match.proofs.searches.next_by_pair.Goals as goal

-- the pair is at none of the places up to one
missed : (rare : RareBytes) (w bytes : List ℕ) (from count : ℕ) → bytes ≡ drop from w → Nowhere (HasPair rare.finder bytes) 0 count → from + count + rare.reach ≤ length w → (i : ℕ) → from ≤ i → i < from + count
    → IsMissed (Some rare) w i
missed rare w bytes from count is none room i low high =
    let f = rare.finder in
    let at : (k : ℕ) → slice_index bytes (i - from + k) ≡ slice_index w (i + k) = λ k.
    let place : from + (i - from + k) ≡ i + k = omega (arith, low) in
    ap (λ v. slice_index v (i - from + k)) is ∙ get_or-drop from w (i - from + k) 0 ∙ ap (slice_index w) place in
    record {
      bytes = rare;
      one = refl;
      room = omega (arith, high, room);
      other = λ has. none (i - from) (omega arith) (omega (arith, low, high)) (record {
        first = at (first_index (pair_of f)) ∙ has.first;
        second = at (second_index (pair_of f)) ∙ has.second;
      });
    }

pub returns-in-Some-clause-missed : goal.returns-in-Some-clause-missed
returns-in-Some-clause-missed c =
    let rare = c.args.rare.now in
    let left = ap length c.after.ensures ∙ length-drop c.args.from c.args.piece.now in
    missed rare c.args.piece.now c.after.result.now c.args.from c.in-Some.count c.after.ensures c.in-Some.ensures.0.before (omega (arith, left, c.in-Some.ensures.0.high, rare.reaches, c.if-piece-from.false))

pub returns-in-None-clause-missed : goal.returns-in-None-clause-missed
returns-in-None-clause-missed c =
    let rare = c.args.rare.now in
    let left : length c.after.result.now ≡ length c.args.piece.now - c.args.from = ap length c.after.ensures ∙ length-drop c.args.from c.args.piece.now in
    λ i low high.
    missed rare c.args.piece.now c.after.result.now c.args.from (length c.args.piece.now - rare.reach - c.args.from) c.after.ensures (λ k zero less. c.in-None.ensures k zero (omega (arith, left, rare.reaches, less)))
    (omega (arith, c.if-piece-from.false, c.requires.from)) i low (omega (arith, high))
