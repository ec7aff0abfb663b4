use Rattle.std.proofs.Common.{ℕ, zero, suc, ◌≡◌, ◌<◌, ◌-◌, ◌++◌, refl, arith}
use Rattle.av_history.specs.World.{WorldState}
use Rattle.av_generate.specs.Generated.{line_drawn, lines_drawn}
use Rattle.av_generate.specs.declared.generator.Generator.{Generator}

-- a line stands in front of those that are left
pub line_passed : (n : ℕ) (g : Generator) (w : WorldState) → 0 < n
    → (line_drawn g w).0 ++ lines_drawn (n - 1) (line_drawn g w).1.0 (line_drawn g w).1.1 ≡ lines_drawn n g w
line_passed zero g w lt = absurd (omega arith)
line_passed (suc n) g w lt = let less : suc n - 1 ≡ n = omega arith in rw less refl
