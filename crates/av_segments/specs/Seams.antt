-- The bytes at a cut.
use Rattle.std.specs.Prelude.{ℕ, ◌≡◌, ◌+◌, ◌-◌, ◌<◌, ◌^◌, ◌++◌, ⊤, List, length, take}
use Rattle.av_base.specs.declared.verdict.Verdict.{Verdict}
use Rattle.av_base.specs.declared.verdict.Verdict.TheVariants.{Clean, Infected}
use Rattle.av_segments.specs.Joining.{edge, last}
use Rattle.av_segments.specs.declared.across.Seam.{Seam}

-- these are the bytes at the cut between c and d, which are fewer than 2^64 bytes
pub record IsSeam (c d : List ℕ) (s : Seam) : Type 0 where
  pub bytes : s.bytes.items ≡ last edge c ++ take edge d
  pub start : s.start ≡ length c - length (last edge c)
  pub cut : s.cut ≡ length c
  pub short : length c + length d < 2 ^ 64

-- the end of a match has room in 64 bits, so many bytes further on
abbrev pub Fits : ℕ → Verdict → Type 0
Fits by Clean = ⊤
Fits by (Infected i e) = by + e < 2 ^ 64
