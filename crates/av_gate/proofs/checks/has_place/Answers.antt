use Rattle.std.proofs.Common.{◌≡◌, ℕ, ◌+◌, ◌-◌, ◌/◌, ◌==◌, add-one, ap, arith, drop, subst}
use Rattle.std.specs.List.{count_by}
use Rattle.av_gate.proofs.OrderLemmas.{found_once, none_from, none_so_far, nowhere}
use Rattle.av_gate.specs.declared.seat.SeatCall.{SeatCall}
use Rattle.av_gate.proofs.checks.has_place.Goals as goal

pub returns-then-found-place : goal.returns-then-found-place
returns-then-found-place c =
    let middle = c.halves.low + (c.halves.high - c.halves.low) / 2 in
    let x = c.index-calls-middle.result in
    found_once 0 c.args.place c.args.calls.now middle x c.requires (omega arith) c.if-found-place.true

pub halves-preserved-then-found-place-2 : goal.halves-preserved-then-found-place-2
halves-preserved-then-found-place-2 c =
    let middle = c.halves.low + (c.halves.high - c.halves.low) / 2 in
    let x = c.index-calls-middle.result in
    let place = ap (λ (k : SeatCall). k.place) c.index-calls-middle.is in
    record {
      order = omega arith;
      within = omega arith;
      below = rw add-one (none_so_far 0 c.args.place c.args.calls.now middle x c.requires (omega arith) (omega (arith, place)));
      above = c.halves.invariant.above;
    }

pub halves-preserved : goal.halves-preserved
halves-preserved c =
    let middle = c.halves.low + (c.halves.high - c.halves.low) / 2 in
    let x = c.index-calls-middle.result in
    let place = ap (λ (k : SeatCall). k.place) c.index-calls-middle.is in
    record {
      order = omega arith;
      within = omega arith;
      below = c.halves.invariant.below;
      above = none_from 0 c.args.place c.args.calls.now middle x c.requires (omega arith) (omega (arith, place));
    }

pub returns : goal.returns
returns c =
    let same : c.halves.high ≡ c.halves.low = omega arith in
    nowhere c.args.place c.args.calls.now c.halves.low c.halves.invariant.below (subst (λ (i : ℕ). count_by (λ k. k.place == c.args.place) (drop i c.args.calls.now) ≡ 0) same c.halves.invariant.above)
