-- The verdict of a content that was scanned in two stretches.
use Rattle.std.specs.Prelude.{ℕ, ◌+◌, ◌-◌, ◌++◌, ◌==◌, ◌&&◌, ◌||◌, nat_lt, nat_le, Bool, List, length, drop, if◌then◌else◌}
use Rattle.av_base.specs.declared.verdict.Verdict.{Verdict}
use Rattle.av_base.specs.declared.verdict.Verdict.TheVariants.{Clean, Infected}
use Rattle.av_match.specs.Match.{verdict}
use Rattle.av_sigset.specs.declared.signature.Pattern.{Pattern}
use Rattle.av_sigset.specs.declared.signature.TheConstants.{MAX_PATTERN}

-- how many bytes a match that lies across a cut can have on one side of it
abbrev pub edge : ℕ
edge = MAX_PATTERN - 1

-- the last n bytes, or all if there are fewer
abbrev pub last : ℕ → List ℕ → List ℕ
last n c = drop (length c - n) c

-- a match that ends at e is not above one that ends at f; of two that end at one place, the lesser index is not above the other
abbrev pub is_up_to : ℕ → ℕ → ℕ → ℕ → Bool
is_up_to e i f j = nat_lt e f || (e == f && nat_le i j)

-- of two verdicts the one whose match ends first; if both end at one place, the one with the lesser index
abbrev pub least_of : Verdict → Verdict → Verdict
least_of Clean w = w
least_of (Infected i e) Clean = Infected i e
least_of (Infected i e) (Infected j f) = if is_up_to e i f j then Infected i e else Infected j f

-- a verdict of bytes that so many others come before
abbrev pub moved_on : ℕ → Verdict → Verdict
moved_on by Clean = Clean
moved_on by (Infected i e) = Infected i (by + e)

-- the verdict of two stretches in one, from the first one's length, its last bytes, the first bytes of the second, and the verdict of each:
-- the least of the first one's verdict, that of the bytes at the cut, and the second one's
abbrev pub joined_verdict : List Pattern → ℕ → List ℕ → List ℕ → Verdict → Verdict → Verdict
joined_verdict ps before tail head v w =
    least_of v (least_of (moved_on (before - length tail) (verdict ps (tail ++ head))) (moved_on before w))
