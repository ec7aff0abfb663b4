use Rattle.std.proofs.Common.{ℕ, zero, suc, ◌≡◌, ◌<◌, ◌+◌, ◌*◌, ◌%◌, ◌^◌, ap, ◌∙◌, arith}
use Rattle.rand_xoshiro.specs.SplitMix64.{next_state}
use Rattle.av_generate.specs.Draws.{DrawsAreSplitmix, mixed, next, state_after}

-- a state that is the sum of a seed and a multiple goes on to the next multiple
summed : (seed n : ℕ) → next_state ((seed + n * 0x9e3779b97f4a7c15) % 2 ^ 64) ≡ (seed + (n + 1) * 0x9e3779b97f4a7c15) % 2 ^ 64
summed seed n = omega arith

-- the state after so many numbers
state_is : (seed n : ℕ) → seed < 2 ^ 64 → state_after seed n ≡ (seed + n * 0x9e3779b97f4a7c15) % 2 ^ 64
unfolding next
state_is seed zero h = omega arith
state_is seed (suc n) h =
    let more : n + 1 ≡ suc n = omega arith in
    ap next_state (state_is seed n h) ∙ summed seed n ∙ ap (λ m. (seed + m * 0x9e3779b97f4a7c15) % 2 ^ 64) more

pub each_number : DrawsAreSplitmix
unfolding next
each_number seed n h = ap (λ s. mixed (next_state s)) (state_is seed n h) ∙ ap mixed (summed seed n)
