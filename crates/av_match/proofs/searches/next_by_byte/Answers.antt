use Rattle.std.proofs.Common.{◌≡◌, ◌+◌, ◌-◌, ◌<◌, ◌≤◌, ℕ, List, Some, refl, ap, ◌∙◌, arith, length, drop, slice_index, eq-eqb, get_or-drop, length-drop}
use Rattle.memchr.specs.Find.{Nowhere, Passes, is_byte}
use Rattle.av_match.specs.Passed.{IsMissed}
use Rattle.av_match.specs.declared.rare.RareBytes.{RareBytes}
use Rattle.av_match.proofs.searches.next_by_byte.Goals as goal

-- the byte is at none of the places up to one
missed : (rare : RareBytes) (w bytes : List ℕ) (from count : ℕ) → bytes ≡ drop (from + rare.offset) w → Nowhere (Passes (is_byte rare.byte) bytes) 0 count
    → (i : ℕ) → from ≤ i → i < from + count → i + rare.reach < length w → IsMissed (Some rare) w i
missed rare w bytes from count is none i low high room =
    let place : from + rare.offset + (i - from) ≡ i + rare.offset = omega (arith, low) in
    let here : slice_index bytes (i - from) ≡ slice_index w (i + rare.offset) =
    ap (λ v. slice_index v (i - from)) is ∙ get_or-drop (from + rare.offset) w (i - from) 0 ∙ ap (slice_index w) place in
    record {
      bytes = rare;
      one = refl;
      room = room;
      other = λ has. none (i - from) (omega arith) (omega (arith, low, high)) (eq-eqb _ _ (here ∙ rare.first w i has));
    }

pub returns-in-Some-clause-missed : goal.returns-in-Some-clause-missed
returns-in-Some-clause-missed c = λ i low high.
    missed c.args.rare.now c.args.piece.now c.after.result.now c.args.from c.in-Some.count c.after.ensures c.in-Some.ensures.0.before i low (omega (arith, high, c.min.ensures)) (omega (arith, high, c.min.ensures))

pub returns-in-None-clause-missed : goal.returns-in-None-clause-missed
returns-in-None-clause-missed c =
    let rare = c.args.rare.now in
    let left : length c.after.result.now ≡ length c.args.piece.now - (c.args.from + rare.offset) = ap length c.after.ensures ∙ length-drop (c.args.from + rare.offset) c.args.piece.now in
    λ i low high.
    missed rare c.args.piece.now c.after.result.now c.args.from (length c.after.result.now) c.after.ensures c.in-None.ensures i low (omega (arith, left, high, rare.within, low)) (omega (arith, high))
