use Rattle.std.proofs.Common.{refl, arith}
use Rattle.av_numbered.proofs.NumberedLemmas.{nothing-whole}
use Rattle.av_numbered.proofs.bounded.Bounded.new.Goals as goal

pub invariant_of-result : goal.invariant_of-result
invariant_of-result g c = (
  rw (c.in_ok-index.ensures.items, c.in_ok-rows.ensures.empty, c.in_ok-values.ensures.items) nothing-whole,
  record {
    counted = rw (c.in_ok-index.ensures.items, c.in_ok-rows.ensures.empty) refl;
    few = rw (c.in_ok-index.ensures.items) (omega arith);
    numbers = c.in_ok-index.ensures.capacity;
    rows = c.in_ok-rows.ensures.capacity;
    values = let taken = c.in_ok-values.ensures.capacity in let room = c.capacity.ensures.value in omega arith;
  },
)
