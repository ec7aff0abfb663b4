-- The numbers of a seed. What is chosen by them is a function of their state: the choice, and the state after it.
use Rattle.std.specs.Prelude.{ℕ, zero, suc, ◌≡◌, ◌<◌, ◌+◌, ◌*◌, ◌/◌, ◌%◌, ◌^◌, bit_xor}
use Rattle.rand_xoshiro.specs.SplitMix64.{mix_u64}

-- the next number, and the state after it
unfoldable pub next : ℕ → ℕ × ℕ
next s = mix_u64 s

-- the next number modulo n, and the state after it
unfoldable pub below : ℕ → ℕ → ℕ × ℕ
below n s = ((next s).0 % n, (next s).1)

-- the state after so many numbers of a seed
abbrev pub state_after : ℕ → ℕ → ℕ
state_after seed zero = seed
state_after seed (suc n) = (next (state_after seed n)).1

-- a word with its high bits folded down, and multiplied
abbrev pub folded : ℕ → ℕ → ℕ → ℕ
folded z places factor = bit_xor z (z / 2 ^ places) * factor % 2 ^ 64

-- SplitMix64's finalizer: each bit of a word turns about half of the bits of the outcome
abbrev pub mixed : ℕ → ℕ
mixed z =
    let w = folded (folded z 30 0xbf58476d1ce4e5b9) 27 0x94d049bb133111eb in bit_xor w (w / 2 ^ 31)

-- SplitMix64: the number n of a seed, counted from 0, is the mixed sum of the seed and n + 1 times the golden ratio
abbrev pub splitmix : ℕ → ℕ → ℕ
splitmix seed n = mixed ((seed + (n + 1) * 0x9e3779b97f4a7c15) % 2 ^ 64)

-- the numbers that are drawn are SplitMix64's
abbrev pub DrawsAreSplitmix : Type 0
DrawsAreSplitmix = (seed n : ℕ) → seed < 2 ^ 64 → (next (state_after seed n)).0 ≡ splitmix seed n
